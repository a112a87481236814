-- The fields of an object behind others.
use Rattle.std.specs.Prelude.{ℕ, List, ◌∷◌, map}
use Rattle.std.specs.List.{concat}
use Rattle.object_core.specs.Objects.{Field, field_text}

-- a field behind a comma
abbrev pub next_field : Field → List ℕ
next_field f = 44 ∷ field_text f

-- fields, each behind a comma
abbrev pub onward : List Field → List ℕ
onward fields = concat (map next_field fields)

-- The fields of an object that is open already.
use Rattle.std.specs.Prelude.{◌≡◌, ℕ, List, ◌∷◌, map}
use Rattle.std.specs.List.{concat}
use Rattle.pdu_core.specs.declared.goose.GoosePdu.{GoosePdu}
use Rattle.frame_core.specs.declared.frame.Apdu.{Apdu}
use Rattle.object_core.specs.Objects.{Field, field_text}
use Rattle.object_core.specs.MemberObject.{AreMembers}
use Rattle.frame_engines.specs.FrameObject.{AreApduFields, goose_fields}

-- a field behind a comma
abbrev pub next_field : Field → List ℕ
next_field f = 44 ∷ field_text f

-- fields, each behind a comma
abbrev pub next_fields : List Field → List ℕ
next_fields fields = concat (map next_field fields)

-- the text is that of the fields of a GOOSE APDU
abbrev pub AreGooseTexts : {A : Type 0} → GoosePdu A → List ℕ → Type 0
AreGooseTexts p text = (members : List ℕ) × AreMembers p.members members × (text ≡ next_fields (goose_fields p members))

-- the text is that of the fields of an APDU
abbrev pub AreApduTexts : {A : Type 0} → Apdu A → List ℕ → Type 0
AreApduTexts a text = (fields : List Field) × AreApduFields a fields × (text ≡ next_fields fields)

-- the text of one thing behind a comma
abbrev pub after_comma : {X : Type 0} → (X → List ℕ) → X → List ℕ
after_comma text x = 44 ∷ text x

-- What values of JSON say, as the words of a line: each value of Data as its text.
use Rattle.std.specs.Prelude.{ℕ, List, [], ◌∷◌, ◌++◌, codes, if◌then◌else◌}
use Rattle.std.specs.List.{join_with_byte}
use Rattle.std.specs.Str.{bytes_eq}
use Rattle.json.specs.Json.{Json, null, boolean, number, string, array, object, Items, no_items, item, Members, no_members, member}
use Rattle.text_core.specs.Pieces.{boolean_text, quoted}

-- a text stands between quotation marks, and all else as it is
abbrev pub outer : Json → List ℕ → List ℕ
outer (string s) text = quoted s
outer _ text = text

-- members between their brackets, and all else behind its name
abbrev pub wrapped : List ℕ → List ℕ → List ℕ
wrapped name text =
    if bytes_eq name (codes "array") then 91 ∷ text ++ 93 ∷ []
    else if bytes_eq name (codes "structure") then 40 ∷ text ++ 41 ∷ []
    else name ++ 58 ∷ text

abbrev mutual
  -- without quotation marks and brackets of its own; an object by its first field
  pub inner : Json → List ℕ
  inner null = []
  inner (boolean b) = boolean_text b
  inner (number s) = s
  inner (string s) = s
  inner (array js) = join_with_byte 32 (items_said js)
  inner (object ms) = first_said ms

  pub items_said : Items → List (List ℕ)
  items_said no_items = []
  items_said (item j js) = outer j (inner j) ∷ items_said js

  pub first_said : Members → List ℕ
  first_said no_members = []
  first_said (member name j ms) = wrapped name (inner j)

-- a value of Data
abbrev pub value_said : Json → List ℕ
value_said j = outer j (inner j)

-- the members of a data set
abbrev pub members_said : Json → List ℕ
members_said j = 123 ∷ inner j ++ 125 ∷ []

-- Objects and arrays of JSON (RFC 8259, 4 and 5) as texts, with no space in them.
use Rattle.std.specs.Prelude.{◌≡◌, ℕ, Result, MatchResult, List, [], ◌∷◌, ◌++◌, length, map, take, codes, Option, Some, None}
use Rattle.std.specs.List.{join_with_byte}
use Rattle.std.specs.Fmt.{decimal}
use Rattle.hex.specs.Hex.{encode_lower}
use Rattle.date_core.specs.DateText.{date_text}
use Rattle.text_core.specs.Pieces.{text_or}

-- A text of the kind was appended; or memory was refused, and earlier text remains.
abbrev pub AppendsSome : {T E : Type 0} → Result T E → List ℕ → List ℕ → (List ℕ → Type 0) → Type 0
AppendsSome r old new Is = MatchResult r (λ _. (text : List ℕ) × (new ≡ old ++ text) × Is text) (λ _. take (length old) new ≡ old)

-- a name, and the text of its value
abbrev pub Field : Type 0
Field = List ℕ × List ℕ

-- "name":value
abbrev pub field_text : Field → List ℕ
field_text f = 34 ∷ f.0 ++ 34 ∷ 58 ∷ f.1

-- an object that is still open
abbrev pub opened : List Field → List ℕ
opened fields = 123 ∷ join_with_byte 44 (map field_text fields)

-- an object: its fields in { }, divided by commas
abbrev pub object : List Field → List ℕ
object fields = opened fields ++ 125 ∷ []

-- an array: its values in [ ], divided by commas
abbrev pub array : List (List ℕ) → List ℕ
array values = 91 ∷ join_with_byte 44 values ++ 93 ∷ []

-- an object as a line
abbrev pub object_line : List Field → List ℕ
object_line fields = object fields ++ codes "\n"

-- a value that is not there
abbrev pub null : List ℕ
null = codes "null"

-- a text of which nothing is escaped
abbrev pub in_quotes : List ℕ → List ℕ
in_quotes text = 34 ∷ text ++ 34 ∷ []

-- the same, or null
abbrev pub in_quotes_or_null : Option (List ℕ) → List ℕ
in_quotes_or_null None = null
in_quotes_or_null (Some text) = in_quotes text

-- a text, or null
abbrev pub text_or_null : Option (List ℕ) → List ℕ
text_or_null text = text_or null text

-- octets in lower case hexadecimal
abbrev pub octets_value : List ℕ → List ℕ
octets_value octets = in_quotes (encode_lower octets)

-- the same, or null
abbrev pub octets_or_null : Option (List ℕ) → List ℕ
octets_or_null None = null
octets_or_null (Some octets) = octets_value octets

-- a number, or null
abbrev pub decimal_or_null : Option ℕ → List ℕ
decimal_or_null None = null
decimal_or_null (Some n) = decimal n

-- the date of a moment in microseconds since 1970, null after the year 9999
abbrev pub date_value : ℕ → List ℕ
date_value moment = in_quotes_or_null (date_text moment)

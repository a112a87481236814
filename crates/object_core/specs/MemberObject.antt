-- Values of Data (ISO 9506-2) as values of JSON. Each text of `value_text` is told, and of a float the number too.
use Rattle.std.specs.Prelude.{◌≡◌, ℕ, ◌==◌, ◌&&◌, if◌then◌else◌, List, [], ◌∷◌, length, codes, flat_map, Option, Some, None, MatchOption, from_bits}
use Rattle.std.specs.Bool.{MatchBool}
use Rattle.std.specs.Fmt.{decimal, signed_decimal}
use Rattle.std.specs.Float.{Float, Format, binary32, binary64, float_is_finite}
use Rattle.byteorder.specs.Endian.{big_number}
use Rattle.std.specs.Float.Parse.{parse_float}
use Rattle.ryu.specs.Plain.{IsPlainNumber, IsLaidOutNumber}
use Rattle.mms_data.specs.Data.{Simple, boolean, bits, integer, unsigned, floating, octets, visible, binary_time, mms_text, utc, Data, simple, array, structure, Items, no_items, item, items_of}
use Rattle.text_core.specs.Pieces.{bits_text, boolean_text, quoted}
use Rattle.object_core.specs.Objects as objects
use Rattle.object_core.specs.Objects.{object, octets_value, in_quotes, null}
use Rattle.object_core.specs.Times.{time_fields}

-- the float that octets stand for (ISO 9506-2, FloatingPoint): 08 and four octets a binary32, 0B and eight a binary64
abbrev pub float_in : List ℕ → Option (Format × Float)
float_in [] = None
float_in (exponent_width ∷ number) =
    if exponent_width == 8 && length number == 4 then Some (binary32, from_bits binary32 (big_number 4 number))
    else (if exponent_width == 11 && length number == 8 then Some (binary64, from_bits binary64 (big_number 8 number)) else None)

-- how many digits stand before the point, and zeros behind it, until an exponent is written
abbrev pub whole_digits : Format → ℕ
whole_digits binary32 = 13
whole_digits binary64 = 16

abbrev pub leading_zeros : Format → ℕ
leading_zeros binary32 = 5
leading_zeros binary64 = 4

-- a number as JSON writes it that reads back as the float
pub record IsNumberOf (format : Format) (x : Float) (text : List ℕ) : Type 0 where
  pub parses : parse_float format text ≡ Some x
  pub plain : IsPlainNumber text
  pub layout : IsLaidOutNumber (whole_digits format) (leading_zeros format) text

-- such a number; null for what is not a number, and for infinities
abbrev pub IsNumberOrNull : Format → Float → List ℕ → Type 0
IsNumberOrNull format x text = MatchBool (float_is_finite x) (IsNumberOf format x text) (text ≡ null)

-- the value of a float by its octets; null for other forms too
abbrev pub IsFloatValue : List ℕ → List ℕ → Type 0
IsFloatValue os text = MatchOption (float_in os) (text ≡ null) (λ f. IsNumberOrNull f.0 f.1 text)

-- an object of one field
abbrev pub one_field : List ℕ → List ℕ → List ℕ
one_field name value = object ((name, value) ∷ [])

-- a value without members; but for the digits of a float there is one text
abbrev pub IsSimple : Simple → List ℕ → Type 0
IsSimple (boolean b) text = text ≡ boolean_text b
IsSimple (bits unused os) text = text ≡ one_field (codes "bits") (in_quotes (bits_text unused os))
IsSimple (integer z) text = text ≡ one_field (codes "int") (signed_decimal z)
IsSimple (unsigned n) text = text ≡ one_field (codes "uint") (decimal n)
IsSimple (floating os) text = (value : List ℕ) × (text ≡ object ((codes "float", octets_value os) ∷ (codes "value", value) ∷ [])) × IsFloatValue os value
IsSimple (octets os) text = text ≡ one_field (codes "oct") (octets_value os)
IsSimple (binary_time os) text = text ≡ one_field (codes "btime") (octets_value os)
IsSimple (mms_text os) text = text ≡ one_field (codes "mms") (octets_value os)
IsSimple (utc t) text = text ≡ object (time_fields (codes "utc") (codes "time") (codes "quality") t)
IsSimple (visible os) text = text ≡ quoted os

abbrev mutual
  -- a value: of an array and of a structure the array of its members, under a name
  pub IsMember : Data → List ℕ → Type 0
  IsMember (simple s) text = IsSimple s text
  IsMember (array ds) text = (texts : List (List ℕ)) × (text ≡ one_field (codes "array") (objects.array texts)) × AreItems ds texts
  IsMember (structure ds) text = (texts : List (List ℕ)) × (text ≡ one_field (codes "structure") (objects.array texts)) × AreItems ds texts

  -- a text for each member
  pub AreItems : Items → List (List ℕ) → Type 0
  AreItems no_items [] = Unit {0}
  AreItems no_items (text ∷ texts) = ⊥
  AreItems (item d ds) [] = ⊥
  AreItems (item d ds) (text ∷ texts) = IsMember d text × AreItems ds texts

-- the members of a data set are an array
abbrev pub AreMembers : List Data → List ℕ → Type 0
AreMembers ds text = (texts : List (List ℕ)) × (text ≡ objects.array texts) × AreItems (items_of ds) texts

-- a text of the kind behind a sign
abbrev pub Behind : ℕ → (List ℕ → Type 0) → List ℕ → Type 0
Behind sign Is text = (rest : List ℕ) × (text ≡ sign ∷ rest) × Is rest

-- a text behind a comma
abbrev pub behind_comma : List ℕ → List ℕ
behind_comma text = 44 ∷ text

-- the texts of members, each behind a comma
abbrev pub AreOthers : List Data → List ℕ → Type 0
AreOthers ds text = (texts : List (List ℕ)) × (text ≡ flat_map behind_comma texts) × AreItems (items_of ds) texts

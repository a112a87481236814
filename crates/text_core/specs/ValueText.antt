-- The text of a value of Data.
use Rattle.std.specs.Prelude.{ℕ, List, [], ◌∷◌, ◌++◌, Option, Some, None, codes}
use Rattle.std.specs.List.{join_with_byte}
use Rattle.std.specs.Fmt.{decimal, signed_decimal}
use Rattle.hex.specs.Hex.{encode_lower}
use Rattle.mms_data.specs.Data.{Simple, boolean, bits, integer, unsigned, floating, octets, visible, binary_time, mms_text, utc, Data, simple, array, structure, Items, no_items, item}
use Rattle.mms_data.specs.Written.{written_time}
use Rattle.mms_data.specs.declared.time.UtcTime.{UtcTime}
use Rattle.text_core.specs.Pieces.{bits_text, quoted, boolean_text, spaced}

-- a moment in UTC as its eight octets
abbrev pub time_text : UtcTime → List ℕ
time_text t = encode_lower (written_time t)

-- a moment in UTC, or a dash
abbrev pub time_or_dash : Option UtcTime → List ℕ
time_or_dash None = codes "-"
time_or_dash (Some t) = time_text t

-- the kind and the contents, where the contents do not show the kind
abbrev pub simple_text : Simple → List ℕ
simple_text (boolean b) = boolean_text b
simple_text (bits unused os) = codes "bits:" ++ bits_text unused os
simple_text (integer z) = codes "int:" ++ signed_decimal z
simple_text (unsigned n) = codes "uint:" ++ decimal n
simple_text (floating os) = codes "float:" ++ encode_lower os
simple_text (octets os) = codes "oct:" ++ encode_lower os
simple_text (binary_time os) = codes "btime:" ++ encode_lower os
simple_text (mms_text os) = codes "mms:" ++ encode_lower os
simple_text (utc t) = codes "utc:" ++ time_text t
simple_text (visible os) = quoted os

abbrev mutual
  -- a simple value, an array in [ ], a structure in ( )
  pub value_text : Data → List ℕ
  value_text (simple s) = simple_text s
  value_text (array ds) = 91 ∷ join_with_byte 32 (item_texts ds) ++ 93 ∷ []
  value_text (structure ds) = 40 ∷ join_with_byte 32 (item_texts ds) ++ 41 ∷ []

  -- the text of each member
  pub item_texts : Items → List (List ℕ)
  item_texts no_items = []
  item_texts (item d ds) = value_text d ∷ item_texts ds

-- a list of members stands in { }
abbrev pub members_text : List Data → List ℕ
members_text ds = 123 ∷ spaced value_text ds ++ 125 ∷ []

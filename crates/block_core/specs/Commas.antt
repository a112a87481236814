-- Fields of a text that commas divide, and what one of them says.
use Rattle.std.specs.Prelude.{ℕ, Bool, not, ◌&&◌, ◌==◌, List, nat_le, Option, Some, None, option_and_then, option_map, if◌then◌else◌}
use Rattle.std.specs.List.{list_all}
use Rattle.byteorder.specs.Endian.{big_number}
use Rattle.hex.specs.Hex.{decode_sized}
use Rattle.ber_core.specs.Contents.{is_visible}
use Rattle.list_core.specs.Cuts.{cut_at}
use Rattle.list_core.specs.Decimal.{decimal_of}
use Rattle.list_core.specs.EventLine.{decoded}

-- the fields: the octets, cut at each comma
abbrev pub comma_fields : List ℕ → List (List ℕ)
comma_fields text = cut_at 44 text

-- so many octets, each by two hexadecimal digits of either case
abbrev pub octets_in : ℕ → List ℕ → Option (List ℕ)
octets_in count digits = decoded (decode_sized digits count)

-- a word of two octets, by four hexadecimal digits
abbrev pub word_in : List ℕ → Option ℕ
word_in digits = option_map (λ octets. big_number 2 octets) (octets_in 2 digits)

-- a number that is at most 4294967295
abbrev pub at_most_32_bits : ℕ → Option ℕ
at_most_32_bits n = if nat_le n 4294967295 then Some n else None

-- such a number, by 1 to 10 decimal digits
abbrev pub number_by : List ℕ → Option ℕ
number_by digits = option_and_then at_most_32_bits (decimal_of 10 digits)

-- a text of octets from 20 to 7E; it may be empty
abbrev pub text_in : List ℕ → Option (List ℕ)
text_in field = if list_all is_visible field then Some field else None

-- an octet that can stand in a field of a BLOCK is visible, and no comma (44)
abbrev pub is_field_octet : ℕ → Bool
is_field_octet c = is_visible c && not (c == 44)

-- a text that can stand in a field of a BLOCK
abbrev pub is_field : List ℕ → Bool
is_field text = list_all is_field_octet text

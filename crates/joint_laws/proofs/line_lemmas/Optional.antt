-- Fields that may be absent, as values of JSON and as words.
use Rattle.std.proofs.Common.{◌≡◌, ℕ, zero, suc, ◌^◌, ◌<◌, List, [], ◌∷◌, Option, Some, None, refl, arith}
use Rattle.std.specs.Prelude.{IfSome}
use Rattle.std.specs.Fmt.{decimal}
use Rattle.hex.specs.Hex.{encode_lower}
use Rattle.ber_core.specs.Contents.{AreVisible}
use Rattle.ber_core.specs.Length.{AreOctets}
use Rattle.frame_core.specs.declared.vlan_tag.VlanTag.{VlanTag}
use Rattle.json.specs.Json.{Json, null, number, string}
use Rattle.text_core.specs.Pieces.{decimal_or_dash, octets_or_dash, quoted_or_dash, two_octets}
use Rattle.object_core.specs.Objects.{decimal_or_null, octets_or_null, text_or_null}
use Rattle.joint_laws.proofs.object_lemmas.Values.{IsTextOf, decimal_is, null_is}
use Rattle.joint_laws.proofs.object_lemmas.Fields.{octets_are, string_or_null, visible_is}
use Rattle.frame_engines.specs.FrameObject.{tag_value, trailer_value}
use Rattle.frame_engines.specs.FrameText.{tag_text, trailer_text}
use Rattle.joint_laws.proofs.line_lemmas.LineSaid.{text_or_dash, word_or_dash}

-- ---- texts

pub text_or_null_is : (n : ℕ) (text : Option (List ℕ)) → IfSome text AreVisible → IsTextOf n (string_or_null text) (text_or_null text)
text_or_null_is n None h = null_is n
text_or_null_is n (Some text) h = visible_is n text h

pub text_said : (text : Option (List ℕ)) → text_or_dash (string_or_null text) ≡ quoted_or_dash text
text_said None = refl
text_said (Some text) = refl

-- ---- numbers

abbrev pub number_or_null : Option ℕ → Json
number_or_null None = null
number_or_null (Some m) = number (decimal m)

pub number_or_null_is : (n : ℕ) (m : Option ℕ) → IfSome m (λ k. k < 2 ^ 64) → IsTextOf n (number_or_null m) (decimal_or_null m)
number_or_null_is n None h = null_is n
number_or_null_is n (Some m) h = decimal_is n m h

pub number_said : (m : Option ℕ) → word_or_dash (number_or_null m) ≡ decimal_or_dash m
number_said None = refl
number_said (Some m) = refl

-- ---- octets

abbrev pub digits_or_null : Option (List ℕ) → Json
digits_or_null None = null
digits_or_null (Some octets) = string (encode_lower octets)

pub digits_or_null_is : (n : ℕ) (octets : Option (List ℕ)) → IfSome octets AreOctets → IsTextOf n (digits_or_null octets) (octets_or_null octets)
digits_or_null_is n None h = null_is n
digits_or_null_is n (Some octets) h = octets_are n octets h

pub digits_said : (octets : Option (List ℕ)) → word_or_dash (digits_or_null octets) ≡ octets_or_dash octets
digits_said None = refl
digits_said (Some octets) = refl

-- ---- a word of two octets, a tag, a trailer

pub two_are_octets : (n : ℕ) → n < 65536 → AreOctets (two_octets n)
two_are_octets n h (suc zero) = omega arith
two_are_octets n h _ = omega arith

abbrev pub tag_json : Option VlanTag → Json
tag_json None = null
tag_json (Some tag) = string (encode_lower (two_octets tag.control))

pub tag_is : (n : ℕ) (tag : Option VlanTag) → IfSome tag (λ t. t.control < 65536) → IsTextOf n (tag_json tag) (tag_value tag)
tag_is n None h = null_is n
tag_is n (Some tag) h = octets_are n (two_octets tag.control) (two_are_octets tag.control h)

pub tag_said : (tag : Option VlanTag) → word_or_dash (tag_json tag) ≡ tag_text tag
tag_said None = refl
tag_said (Some tag) = refl

abbrev pub trailer_json : List ℕ → Json
trailer_json [] = null
trailer_json (x ∷ xs) = string (encode_lower (x ∷ xs))

pub trailer_is : (n : ℕ) (octets : List ℕ) → AreOctets octets → IsTextOf n (trailer_json octets) (trailer_value octets)
trailer_is n [] h = null_is n
trailer_is n (x ∷ xs) h = octets_are n (x ∷ xs) h

pub trailer_said : (octets : List ℕ) → word_or_dash (trailer_json octets) ≡ trailer_text octets
trailer_said [] = refl
trailer_said (x ∷ xs) = refl

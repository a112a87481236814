-- Fields that stand in their written form.
use Rattle.std.proofs.Common.{◌≡◌, ℕ, ◌-◌, ◌^◌, ◌≤◌, ◌<◌, Bool, true, List, [], ◌++◌, length, refl, sym, ap, subst, ap₂, ◌∙◌, arith}
use Rattle.std.proofs.lemmas.Bool.{and_parts}
use Rattle.std.specs.Prelude.{◌&&◌, slice_range}
use Rattle.ber_core.specs.Element.{contents_of}
use Rattle.ber_core.specs.Fields.{IsField}
use Rattle.byteorder.specs.Endian.{big_bytes, big_number}
use Rattle.byteorder.specs.Numbers.{length-bytes_high_first}
use Rattle.ber_core.specs.Length.{AreOctets, number}
use Rattle.ber_core.proofs.OneSize.{number_one}
use Rattle.ber_core.proofs.Shortest.{big_bytes_octets, number-big_bytes, number_small}
use Rattle.ber_core.specs.computed.Reading.{IsWithin}
use Rattle.ber_core.specs.Written.{written_element}
use Rattle.ber_core.specs.declared.element.Header.{Header}
use Rattle.ber_core.proofs.Regions.{region-split}
use Rattle.mms_data.specs.Written.{header_size}
use Rattle.mms_data.proofs.AsWritten.{header_one}
use Rattle.pdu_core.specs.Contents.{SpellsFixed}

-- an element with the shortest length and the written contents
field_one : (octets : List ℕ) (at end id : ℕ) (h : Header) (w : List ℕ) → AreOctets octets → end ≤ length octets → IsField id octets at end h → IsWithin at end h
    → h.contents_from - h.at ≡ header_size (h.contents_to - h.contents_from) → contents_of octets h ≡ w → slice_range octets at h.contents_to ≡ written_element id w
field_one octets at end id h w small inside is places short same =
    header_one octets at end h small inside is.0 (omega (arith, places.at, places.begins)) short ∙ ap₂ written_element is.1 same

-- the same where it is told, beside what was read before
module _ (octets : List ℕ) (at end id : ℕ) (h : Header) (w : List ℕ) (small : AreOctets octets) (inside : end ≤ length octets) (is : IsField id octets at end h) (places : IsWithin at end h)
    (written short : Bool) (shortest : short ≡ true → h.contents_from - h.at ≡ header_size (h.contents_to - h.contents_from)) where
  pub field_stands : contents_of octets h ≡ w → (written && short) ≡ true → (written ≡ true) × (slice_range octets at h.contents_to ≡ written_element id w)
  field_stands same t = let both = and_parts written short t in (both.0, field_one octets at end id h w small inside is places (shortest both.1) same)

  pub field_stands_if : (own : Bool) → (own ≡ true → contents_of octets h ≡ w) → ((written && short) && own) ≡ true → (written ≡ true) × (slice_range octets at h.contents_to ≡ written_element id w)
  field_stands_if own same t = let both = and_parts (written && short) own t in field_stands (same both.1) both.0

-- a number in a stated count of octets is spelled in one way
pub fixed_one : (size n : ℕ) (c : List ℕ) → AreOctets c → SpellsFixed size n c → c ≡ big_bytes size n
fixed_one size n c small s =
    let held : n < 256 ^ size = subst (λ (m : ℕ). m < 256 ^ size) s.1 (subst (λ (m : ℕ). number c < 256 ^ m) s.0 (number_small c small)) in
    sym (number_one (big_bytes size n) c (big_bytes_octets size n) small (length-bytes_high_first size n ∙ sym s.0) (number-big_bytes size n held ∙ sym s.1))

-- contents of a stated count spell their number
pub fixed_counted : (size : ℕ) (c k : List ℕ) → (c ≡ k) × (length k ≡ size) → SpellsFixed size (big_number size k) c
fixed_counted size c k (same, count) = rw same (count, ap (λ (n : ℕ). big_number n k) count)

-- no octets
pub nothing : (octets : List ℕ) (i j : ℕ) → j ≤ i → slice_range octets i j ≡ []
nothing octets i j order = let none : j - i ≡ 0 = omega (arith, order) in rw none refl

-- one field, and those behind it
pub join : (octets : List ℕ) (i j k : ℕ) {a b : List ℕ} → i ≤ j → j ≤ k → slice_range octets i j ≡ a → slice_range octets j k ≡ b → slice_range octets i k ≡ a ++ b
join octets i j k low high first rest = region-split octets i j k low high ∙ ap₂ (λ (x y : List ℕ). x ++ y) first rest

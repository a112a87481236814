-- What is written of Sampled Values is spelled.
use Rattle.std.proofs.Common.{◌≡◌, ℕ, pos, ◌+◌, ◌^◌, ◌<◌, List, [], ◌∷◌, length, drop, Option, Some, None, refl, sym, arith}
use Rattle.std.proofs.lemmas.Int.{ints}
use Rattle.std.proofs.lemmas.List.{append-nil, length-append}
use Rattle.std.specs.List.{AllByRecursion}
use Rattle.std.specs.Prelude.{IfSome}
use Rattle.ber_core.specs.Fields.{filled}
use Rattle.ber_core.specs.Contents.{SpellsInteger, AreVisible}
use Rattle.ber_core.specs.Repeated.{SpellsEach}
use Rattle.ber_core.specs.Written.{short_integer, written_element}
use Rattle.ber_core.proofs.Shortest.{integer_shortest}
use Rattle.mms_data.specs.Spellable.{IsTime}
use Rattle.mms_data.specs.declared.time.UtcTime.{UtcTime}
use Rattle.pdu_core.specs.Asdu.{asdu_fields, asdu_items, fixed_if, some_octets_if, time_if}
use Rattle.pdu_core.specs.Goose.{text_if}
use Rattle.pdu_core.specs.Sampled.{a_count, asdu_grammar, items_of_each, some_asdus}
use Rattle.pdu_core.specs.SampledLaws.{WrittenSvIsSpelled}
use Rattle.pdu_core.specs.SampledSpellable.{AreFew, IsAsduCount, IsFixed, IsSpellableAsdu}
use Rattle.pdu_core.specs.SampledWritten.{asdu_contents, sv_contents, written_asdu, written_asdus}
use Rattle.pdu_core.specs.declared.sampled.asdu.Asdu.{Asdu}
use Rattle.mms_data.proofs.Sizes.{element_size}
use Rattle.pdu_core.proofs.WrittenSpelled.{Suit, element_written, fields_written, one_octet}

-- ---- an ASDU

-- the fields from sample on
octets_suit : {A : Type 0} (a : Asdu A) → IsSpellableAsdu a → Suit (drop 7 asdu_fields) (drop 7 (asdu_items a))
octets_suit a s = (one_octet 0x87 refl, tt, with_mod a.smp_mod s.smp_mod) where
  with_last : (o : Option (List ℕ)) → IfSome o AreFew → Suit (drop 9 asdu_fields) (some_octets_if o ∷ [])
  with_last None h = (refl, tt)
  with_last (Some o) few = (one_octet 0x89 refl, few, tt)

  with_mod : (o : Option (List ℕ)) → IfSome o AreFew → Suit (drop 8 asdu_fields) (some_octets_if o ∷ drop 9 (asdu_items a))
  with_mod None h = (refl, with_last a.field_89 s.field_89)
  with_mod (Some o) few = (one_octet 0x88 refl, few, with_last a.field_89 s.field_89)

-- the fields from smpSynch on
samples_suit : {A : Type 0} (a : Asdu A) → IsSpellableAsdu a → Suit (drop 5 asdu_fields) (drop 5 (asdu_items a))
samples_suit a s = (one_octet 0x85 refl, (refl, s.smp_synch), with_rate a.smp_rate s.smp_rate) where
  with_rate : (n : Option ℕ) → IfSome n (IsFixed 2) → Suit (drop 6 asdu_fields) (fixed_if 2 n ∷ drop 7 (asdu_items a))
  with_rate None h = (refl, octets_suit a s)
  with_rate (Some n) small = (one_octet 0x86 refl, (refl, small), octets_suit a s)

asdu_suits : {A : Type 0} (a : Asdu A) → IsSpellableAsdu a → Suit asdu_fields (asdu_items a)
asdu_suits a s = (one_octet 0x80 refl, s.sv_id, with_set a.dat_set s.dat_set) where
  with_time : (t : Option UtcTime) → IfSome t IsTime → Suit (drop 4 asdu_fields) (time_if t ∷ drop 5 (asdu_items a))
  with_time None h = (refl, samples_suit a s)
  with_time (Some t) good = (one_octet 0x84 refl, good, samples_suit a s)

  counts : Suit (drop 2 asdu_fields) (drop 2 (asdu_items a))
  counts = (one_octet 0x82 refl, (refl, s.smp_cnt), (one_octet 0x83 refl, (refl, s.conf_rev), with_time a.refr_tm s.refr_tm))

  with_set : (t : Option (List ℕ)) → IfSome t AreVisible → Suit (drop 1 asdu_fields) (text_if t ∷ drop 2 (asdu_items a))
  with_set None h = (refl, counts)
  with_set (Some t) visible = (one_octet 0x81 refl, visible, counts)

-- ---- ASDUs, one after the other

asdus_written : {A : Type 0} (asdus : List (Asdu A)) → AllByRecursion IsSpellableAsdu asdus → length (written_asdus asdus) < 2 ^ 32
    → SpellsEach asdu_grammar 0x30 tt (items_of_each asdus) (written_asdus asdus)
asdus_written [] s small = refl
asdus_written (a ∷ more) (first, rest) small =
    let size : length (written_asdus (a ∷ more)) ≡ length (written_asdu a) + length (written_asdus more) = length-append (written_asdu a) (written_asdus more) in
    let holds = element_size 0x30 (asdu_contents a) in
    let few : length (asdu_contents a) < 2 ^ 32 = omega (arith, size, holds, small) in (
      asdu_contents a,
      written_asdu a,
      written_asdus more,
      element_written 0x30 (asdu_contents a) (one_octet 0x30 refl) few,
      fields_written asdu_fields (asdu_items a) (asdu_suits a first) few,
      asdus_written more rest (omega (arith, size, small)),
      refl,
    )

-- ---- the APDU

count_written : (n : ℕ) → IsAsduCount n → SpellsInteger (pos 1) (pos 65535) (pos n) (short_integer (pos n))
count_written n (low, high) = (omega (arith, ints), omega (arith, ints), (integer_shortest (pos n) (omega (arith, ints)) (omega (arith, ints))).spells)

pub written_sv_is_spelled : {A : Type 0} → WrittenSvIsSpelled A
written_sv_is_spelled p s small =
    let count = short_integer (pos (length p.asdus)) in
    let each = written_asdus p.asdus in
    let size : length (sv_contents p) ≡ length (written_element 0x80 count) + length (written_element 0xa2 each) = length-append (written_element 0x80 count) (written_element 0xa2 each) in
    let of_count = element_size 0x80 count in
    let of_each = element_size 0xa2 each in
    let few_each : length each < 2 ^ 32 = omega (arith, size, of_each, small) in
    let few_count : length count < 2 ^ 32 = omega (arith, size, of_count, small) in (
      sv_contents p,
      element_written 0x60 (sv_contents p) (one_octet 0x60 refl) small,
      (
        written_element 0x80 count,
        written_element 0xa2 each,
        filled (a_count (length p.asdus)) count refl (element_written 0x80 count (one_octet 0x80 refl) few_count) (count_written (length p.asdus) s.count),
        (
          written_element 0xa2 each,
          [],
          filled (some_asdus (items_of_each p.asdus)) each refl (element_written 0xa2 each (one_octet 0xa2 refl) few_each) (asdus_written p.asdus s.each few_each),
          refl,
          sym (append-nil (written_element 0xa2 each)),
        ),
        refl,
      ),
    )

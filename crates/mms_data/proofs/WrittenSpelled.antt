-- The written form of a value spells it.
use Rattle.std.proofs.Common.{◌≡◌, ℕ, ◌+◌, ◌%◌, ◌<◌, ◌^◌, Bool, true, false, not, List, length, refl, sym, arith}
use Rattle.std.proofs.lemmas.List.{length-append}
use Rattle.std.proofs.lemmas.Bool.{eqb-false}
use Rattle.std.proofs.lemmas.Int.{ints}
use Rattle.std.specs.Prelude.{◌==◌, pos}
use Rattle.byteorder.specs.Endian.{big_bytes}
use Rattle.byteorder.specs.Numbers.{length-bytes_high_first}
use Rattle.ber_core.specs.Element.{Elem}
use Rattle.ber_core.specs.Written.{short_length, written_element}
use Rattle.ber_core.proofs.Shortest.{length_shortest, integer_shortest, number-big_bytes}
use Rattle.mms_data.specs.Data.{Simple, boolean, bits, integer, unsigned, floating, octets, visible, binary_time, mms_text, utc, Data, simple, array, structure, Items, no_items, item, items_of}
use Rattle.mms_data.specs.Kinds.{identifier_of, simple_kind}
use Rattle.mms_data.specs.Contents.{SpellsSimple}
use Rattle.mms_data.specs.Utc.{SpellsUtc}
use Rattle.mms_data.specs.Laws.{WrittenIsSpelled, AllWrittenAreSpelled}
use Rattle.mms_data.specs.Spellable.{IsTime, IsSpellableSimple, IsSpellableAt, ItemsAreSpellable}
use Rattle.mms_data.specs.Spelling.{Spells, SpellsItems}
use Rattle.mms_data.specs.Written.{truth_octet, written_time, simple_contents, written, written_items, HasWritten}
use Rattle.mms_data.specs.declared.kinds.Kind.{Kind}
use Rattle.mms_data.specs.declared.kinds.Kind.TheVariants.{Array, Structure, Simple as of_kind}
use Rattle.mms_data.specs.declared.time.UtcTime.{UtcTime}
use Rattle.mms_data.proofs.KindLaws.{low_tag}
use Rattle.mms_data.proofs.WrittenSizes.{written_size}

-- the written element is one
element_spelled : (k : Kind) (c : List ℕ) → length c < 2 ^ 32 → Elem (identifier_of k) c (written_element (identifier_of k) c)
unfolding written_element
element_spelled k c few = record {
  identifier = eqb-false (identifier_of k % 32) 31 (low_tag k);
  size = short_length (length c);
  sized = (length_shortest (length c) few).spells;
  parts = refl;
}

truth_is : (b : Bool) → b ≡ not (truth_octet b == 0)
truth_is true = refl
truth_is false = refl

time_spelled : (t : UtcTime) → IsTime t → SpellsUtc t (written_time t)
time_spelled t h = (
  big_bytes 4 t.seconds,
  big_bytes 3 t.fraction,
  length-bytes_high_first 4 t.seconds,
  length-bytes_high_first 3 t.fraction,
  number-big_bytes 4 t.seconds h.0,
  number-big_bytes 3 t.fraction h.1,
  refl,
)

simple_spelled : (s : Simple) → IsSpellableSimple s → SpellsSimple s (simple_contents s)
simple_spelled (boolean b) h = (truth_octet b, refl, truth_is b)
simple_spelled (bits unused ns) h = (refl, h.0, sym h.1)
simple_spelled (integer n) h = (h.0, h.1, (integer_shortest n (omega (arith, ints, h.0)) (omega (arith, ints, h.1))).spells)
simple_spelled (unsigned n) h = (h.0, h.1, (integer_shortest (pos n) (omega (arith, ints)) (omega (arith, ints, h.1))).spells)
simple_spelled (floating ns) h = (refl, h)
simple_spelled (octets ns) h = refl
simple_spelled (visible ns) h = (refl, h)
simple_spelled (binary_time ns) h = (refl, h)
simple_spelled (mms_text ns) h = refl
simple_spelled (utc t) h = time_spelled t h

mutual
  pub written_spelled : (d : Data) (L : ℕ) → IsSpellableAt d L → HasWritten d → Spells d L (written d)
  written_spelled (simple s) L h few = (h.0, simple_contents s, element_spelled (of_kind (simple_kind s)) (simple_contents s) few, simple_spelled s h.1)
  written_spelled (array ds) L h few = (h.0, written_items ds, element_spelled Array (written_items ds) few, items_spelled ds (L + 1) h.1 few)
  written_spelled (structure ds) L h few = (h.0, written_items ds, element_spelled Structure (written_items ds) few, items_spelled ds (L + 1) h.1 few)

  pub items_spelled : (ds : Items) (L : ℕ) → ItemsAreSpellable ds L → length (written_items ds) < 2 ^ 32 → SpellsItems ds L (written_items ds)
  items_spelled no_items L h few = refl
  items_spelled (item d ds) L h few =
      let sum = length-append (written d) (written_items ds) in
      (written d, written_items ds, written_spelled d L h.0 (omega (arith, few, sum, written_size d)), items_spelled ds L h.1 (omega (arith, few, sum)), refl)

pub written_is_spelled : WrittenIsSpelled
written_is_spelled = written_spelled

pub all_written_are_spelled : AllWrittenAreSpelled
all_written_are_spelled ds L h few = items_spelled (items_of ds) L h few

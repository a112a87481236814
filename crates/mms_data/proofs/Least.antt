-- The written form of a value is no longer than any of its spellings.
use Rattle.std.proofs.Common.{ℕ, ◌+◌, ◌^◌, ◌<◌, ◌≤◌, List, [], ◌∷◌, ◌++◌, length, ap, subst, arith}
use Rattle.std.proofs.lemmas.Int.{ints}
use Rattle.std.proofs.lemmas.List.{length-append}
use Rattle.std.specs.Prelude.{pos}
use Rattle.ber_core.specs.Length.{AreOctets}
use Rattle.ber_core.specs.Element.{Elem}
use Rattle.ber_core.specs.Written.{written_element}
use Rattle.ber_core.proofs.OneSize.{Len_small}
use Rattle.ber_core.proofs.Shortest.{length_shortest, integer_shortest}
use Rattle.mms_data.specs.Contents.{SpellsSimple}
use Rattle.mms_data.specs.Data.{Simple, boolean, bits, integer, unsigned, floating, octets, visible, binary_time, mms_text, utc, Data, simple, array, structure, Items, no_items, item}
use Rattle.mms_data.specs.Spelling.{Spells, SpellsItems}
use Rattle.mms_data.specs.Written.{simple_contents, written, written_items, header_size}
use Rattle.mms_data.proofs.Sizes.{cleared_size}
use Rattle.mms_data.proofs.SpelledSpellable.{front_octets, back_octets, contents_octets}
use Rattle.mms_data.proofs.WrittenSizes.{element_size, length_size, time_size}

-- ---- contents of simple values

pub simple_least : (s : Simple) (c : List ℕ) → AreOctets c → SpellsSimple s c → length (simple_contents s) ≤ length c
simple_least (boolean b) c h (n, is, truth) = omega (arith, ap length is)
simple_least (bits unused ns) [] h s = absurd s
simple_least (bits unused ns) (count ∷ more) h (same, fits, is) = omega (arith, ap length is, cleared_size count more)
simple_least (integer n) c h (low, high, spelled) = (integer_shortest n (omega (arith, ints, low)) (omega (arith, ints, high))).fewest c h spelled
simple_least (unsigned n) c h (low, high, spelled) = (integer_shortest (pos n) (omega (arith, ints)) (omega (arith, ints, high))).fewest c h spelled
simple_least (floating ns) c h s = omega (arith, ap length s.0)
simple_least (octets ns) c h s = omega (arith, ap length s)
simple_least (visible ns) c h s = omega (arith, ap length s.0)
simple_least (binary_time ns) c h s = omega (arith, ap length s.0)
simple_least (mms_text ns) c h s = omega (arith, ap length s)
simple_least (utc t) c h (seconds, fraction, four, three, first, second, parts) =
    omega (arith, time_size t, ap length parts, length-append seconds (fraction ++ t.quality ∷ []), length-append fraction (t.quality ∷ []), four, three)

-- ---- elements

-- fewer contents have no longer header
header_grows : (m n : ℕ) → m ≤ n → header_size m ≤ header_size n
header_grows m n few = grind arith

pub size_octets : (id : ℕ) (c o : List ℕ) → AreOctets o → (e : Elem id c o) → AreOctets e.size
size_octets id c o h e = front_octets e.size c (back_octets (id ∷ []) (e.size ++ c) (subst AreOctets e.parts h))

pub contents_small : (id : ℕ) (c o : List ℕ) → AreOctets o → Elem id c o → length c < 2 ^ 32
contents_small id c o h e = Len_small (length c) e.size (size_octets id c o h e) e.sized

-- the written element of no more contents is no longer
element_least : (id : ℕ) (c cw o : List ℕ) → AreOctets o → Elem id c o → length cw ≤ length c → length (written_element id cw) ≤ length o
element_least id c cw o h e few =
    let fewest = (length_shortest (length c) (contents_small id c o h e)).fewest e.size (size_octets id c o h e) e.sized in
    omega (arith, element_size id cw, header_grows (length cw) (length c) few, few, length_size (length c), fewest, ap length e.parts, length-append e.size c)

-- ---- values, nested

mutual
  pub least : (d : Data) (L : ℕ) (o : List ℕ) → AreOctets o → Spells d L o → length (written d) ≤ length o
  least (simple s) L o h (low, c, elem, spelled) = element_least _ c (simple_contents s) o h elem (simple_least s c (contents_octets _ c o h elem) spelled)
  least (array ds) L o h (low, c, elem, spelled) = element_least 161 c (written_items ds) o h elem (items_least ds (L + 1) c (contents_octets 161 c o h elem) spelled)
  least (structure ds) L o h (low, c, elem, spelled) = element_least 162 c (written_items ds) o h elem (items_least ds (L + 1) c (contents_octets 162 c o h elem) spelled)

  pub items_least : (ds : Items) (L : ℕ) (o : List ℕ) → AreOctets o → SpellsItems ds L o → length (written_items ds) ≤ length o
  items_least no_items L o h s = omega arith
  items_least (item d ds) L o h (first, rest, spelled, more, parts) =
      let all : AreOctets (first ++ rest) = subst AreOctets parts h in
      omega (
        arith,
        least d L first (front_octets first rest all) spelled,
        items_least ds L rest (back_octets first rest all) more,
        length-append (written d) (written_items ds),
        ap length parts,
        length-append first rest,
      )

-- The test of what has a spelling says so, both ways.
use Rattle.std.proofs.Common.{◌≡◌, ℕ, zero, suc, ◌+◌, ◌-◌, ◌%◌, ◌^◌, ◌<◌, true, leb, eqb, List, [], ◌∷◌, length, Result, Ok, Err, refl, ap, arith}
use Rattle.std.proofs.lemmas.Bool.{ltb-true, lt-ltb, leb-true, le-leb, eqb-true, eq-eqb, and_parts, and_from}
use Rattle.std.proofs.lemmas.Int.{ints}
use Rattle.std.specs.Prelude.{ℤ, pos, negsuc, slice_index}
use Rattle.ber_core.specs.declared.fault.Fault.{Fault}
use Rattle.mms_data.specs.Data.{Simple, boolean, bits, integer, unsigned, floating, octets, visible, binary_time, mms_text, utc, Data, simple, array, structure, Items, no_items, item}
use Rattle.ber_core.specs.Contents.{AreVisible}
use Rattle.ber_core.specs.computed.ContentsReading.{all_visible_at}
use Rattle.ber_core.proofs.ContentsLaws.{all_visible_found, all_visible_again}
use Rattle.mms_data.specs.Contents.{IsSigned, IsUnused, cleared}
use Rattle.mms_data.specs.Spellable.{IsTime, IsSpellableSimple, IsSpellableAt, ItemsAreSpellable}
use Rattle.mms_data.specs.computed.SpellableTest.{is_text_read, is_text, are_bits, is_time, is_signed, is_spellable_simple, is_spellable_at, items_are_spellable}
use Rattle.mms_data.specs.declared.time.UtcTime.{UtcTime}
use Rattle.mms_data.proofs.ContentsLaws.{floating_true, floating_is, time_true, time_is}

text_true : (ns : List ℕ) → AreVisible ns → is_text ns ≡ true
text_true ns h = ap is_text_read (all_visible_again 0 ns h)

read_ok : (r : Result (Unit {0}) Fault) → is_text_read r ≡ true → (u : Unit {0}) × (r ≡ Ok u)
read_ok (Ok u) e = (u, refl)
read_ok (Err f) e = absurd (cc)

text_is : (ns : List ℕ) → is_text ns ≡ true → AreVisible ns
text_is ns e = let x = read_ok (all_visible_at 0 ns) e in all_visible_found 0 ns x.0 x.1

power_some : (u : ℕ) → 0 < 2 ^ u
power_some zero = omega arith
power_some (suc u) = omega (arith, power_some u)

clear_same : (u : ℕ) (o : List ℕ) (k : ℕ) → length o ≡ suc k → slice_index o k % 2 ^ u ≡ 0 → cleared u o ≡ o
clear_same u [] k size e = absurd (omega arith)
clear_same u (x ∷ []) zero size e = let none : x - x % 2 ^ u ≡ x = omega (arith, e) in ap (λ y. y ∷ []) none
clear_same u (x ∷ []) (suc k) size e = absurd (omega arith)
clear_same u (x ∷ y ∷ ys) zero size e = absurd (omega arith)
clear_same u (x ∷ y ∷ ys) (suc k) size e = ap (λ (l : List ℕ). x ∷ l) (clear_same u (y ∷ ys) k (omega arith) e)

same_clear : (u : ℕ) (o : List ℕ) (k : ℕ) → length o ≡ suc k → cleared u o ≡ o → slice_index o k % 2 ^ u ≡ 0
same_clear u [] k size e = absurd (omega arith)
same_clear u (x ∷ []) zero size e = let is : x - x % 2 ^ u ≡ x = cc in let some = power_some u in omega (arith, is, some)
same_clear u (x ∷ []) (suc k) size e = absurd (omega arith)
same_clear u (x ∷ y ∷ ys) zero size e = absurd (omega arith)
same_clear u (x ∷ y ∷ ys) (suc k) size e = let is : cleared u (y ∷ ys) ≡ y ∷ ys = cc in same_clear u (y ∷ ys) k (omega arith) is

last_place : (n : ℕ) (ns : List ℕ) → length (n ∷ ns) ≡ suc (length (n ∷ ns) - 1)
last_place n ns = omega arith

bits_true : (u : ℕ) (ns : List ℕ) → IsUnused u ns → cleared u ns ≡ ns → are_bits u ns ≡ true
bits_true u [] h e = eq-eqb u 0 h
bits_true u (n ∷ ns) h e = and_from _ _ (le-leb u 7 h) (eq-eqb _ 0 (same_clear u (n ∷ ns) (length (n ∷ ns) - 1) (last_place n ns) e))

bits_is : (u : ℕ) (ns : List ℕ) → are_bits u ns ≡ true → IsUnused u ns × (cleared u ns ≡ ns)
bits_is u [] e = (eqb-true u 0 e, refl)
bits_is u (n ∷ ns) e =
    let b = and_parts (leb u 7) (eqb (slice_index (n ∷ ns) (length (n ∷ ns) - 1) % 2 ^ u) 0) e in
    (leb-true u 7 b.0, clear_same u (n ∷ ns) (length (n ∷ ns) - 1) (last_place n ns) (eqb-true _ 0 b.1))

signed_true : (n : ℤ) → IsSigned n → is_signed n ≡ true
signed_true (pos n) h = lt-ltb n (2 ^ 63) (omega (arith, ints, h.1))
signed_true (negsuc n) h = lt-ltb n (2 ^ 63) (omega (arith, ints, h.0))

signed_is : (n : ℤ) → is_signed n ≡ true → IsSigned n
signed_is (pos n) e = let few = ltb-true n (2 ^ 63) e in (omega (arith, ints, few), omega (arith, ints, few))
signed_is (negsuc n) e = let few = ltb-true n (2 ^ 63) e in (omega (arith, ints, few), omega (arith, ints, few))

pub moment_true : (t : UtcTime) → IsTime t → is_time t ≡ true
moment_true t h = rw (lt-ltb t.seconds (2 ^ 32) h.0, lt-ltb t.fraction (2 ^ 24) h.1, lt-ltb t.quality (2 ^ 8) h.2) refl

pub moment_is : (t : UtcTime) → is_time t ≡ true → IsTime t
moment_is t e = let a = and_parts _ _ e in let b = and_parts _ _ a.1 in (ltb-true _ _ a.0, ltb-true _ _ b.0, ltb-true _ _ b.1)

simple_true : (s : Simple) → IsSpellableSimple s → is_spellable_simple s ≡ true
simple_true (boolean b) h = refl
simple_true (bits unused ns) h = bits_true unused ns h.0 h.1
simple_true (integer n) h = signed_true n h
simple_true (unsigned n) h = lt-ltb n (2 ^ 64) (omega (arith, ints, h.1))
simple_true (floating ns) h = floating_true (length ns) h
simple_true (octets ns) h = refl
simple_true (visible ns) h = text_true ns h
simple_true (binary_time ns) h = time_true (length ns) h
simple_true (mms_text ns) h = refl
simple_true (utc t) h = moment_true t h

simple_is : (s : Simple) → is_spellable_simple s ≡ true → IsSpellableSimple s
simple_is (boolean b) e = tt
simple_is (bits unused ns) e = bits_is unused ns e
simple_is (integer n) e = signed_is n e
simple_is (unsigned n) e = let few = ltb-true n (2 ^ 64) e in (omega (arith, ints), omega (arith, ints, few))
simple_is (floating ns) e = floating_is (length ns) e
simple_is (octets ns) e = tt
simple_is (visible ns) e = text_is ns e
simple_is (binary_time ns) e = time_is (length ns) e
simple_is (mms_text ns) e = tt
simple_is (utc t) e = moment_is t e

mutual
  pub spelled_true : (d : Data) (L : ℕ) → IsSpellableAt d L → is_spellable_at d L ≡ true
  spelled_true (simple s) L h = and_from _ _ (le-leb L 16 h.0) (simple_true s h.1)
  spelled_true (array ds) L h = and_from _ _ (le-leb L 16 h.0) (all_true ds (L + 1) h.1)
  spelled_true (structure ds) L h = and_from _ _ (le-leb L 16 h.0) (all_true ds (L + 1) h.1)

  pub all_true : (ds : Items) (L : ℕ) → ItemsAreSpellable ds L → items_are_spellable ds L ≡ true
  all_true no_items L h = refl
  all_true (item d ds) L h = and_from _ _ (spelled_true d L h.0) (all_true ds L h.1)

mutual
  pub spelled_is : (d : Data) (L : ℕ) → is_spellable_at d L ≡ true → IsSpellableAt d L
  spelled_is (simple s) L e = let b = and_parts (leb L 16) (is_spellable_simple s) e in (leb-true L 16 b.0, simple_is s b.1)
  spelled_is (array ds) L e = let b = and_parts (leb L 16) (items_are_spellable ds (L + 1)) e in (leb-true L 16 b.0, all_is ds (L + 1) b.1)
  spelled_is (structure ds) L e = let b = and_parts (leb L 16) (items_are_spellable ds (L + 1)) e in (leb-true L 16 b.0, all_is ds (L + 1) b.1)

  pub all_is : (ds : Items) (L : ℕ) → items_are_spellable ds L ≡ true → ItemsAreSpellable ds L
  all_is no_items L e = tt
  all_is (item d ds) L e = let b = and_parts (is_spellable_at d L) (items_are_spellable ds L) e in (spelled_is d L b.0, all_is ds L b.1)

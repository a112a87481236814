-- Entries in the order of their keys: what is found among them, and what a write and one more leave.
use Rattle.std.proofs.Common.{◌≡◌, ℕ, zero, suc, ◌+◌, ◌-◌, ◌<◌, List, [], ◌∷◌, length, get_or, set, ap, sym, ◌∙◌, refl, arith, inl, inr}
use Rattle.std.specs.Cmp.{IsTotalOrder}
use Rattle.std.specs.List.{insert}
use Rattle.std.specs.List.Sorted.{IsSortedBy}
use Rattle.std.specs.Ordering.{is_lt, ordering_reverse}
use Rattle.std.specs.declared.cmp.Ordering.{Ordering}
use Rattle.std.specs.declared.cmp.Ordering.TheVariants.{Less, Equal, Greater}
use Rattle.std.proofs.lemmas.Bool.{cases_lt}
use Rattle.std.proofs.lemmas.Cmp.{tied_itself}
use Rattle.std.proofs.lemmas.List.{length-set}
use Rattle.std.proofs.lemmas.List.Edits.{length-insert, get_or-insert_below, get_or-insert_at, get_or-insert_above}
use Rattle.std.proofs.lemmas.List.Sorted.{searchable_from_sorted}
use Rattle.known_core.specs.computed.Held.{InOrderFor, IsAt, IsGap}
use Rattle.known_core.specs.computed.Order.{Ascends}

less_equal : Less ≡ Equal → ⊥
less_equal e = cc

greater_equal : Greater ≡ Equal → ⊥
greater_equal e = cc

-- a write at a place keeps the keys, if it keeps that one
pub keys_stay : {E K : Type 0} (key : E → K) (xs : List E) (at : ℕ) (y d : E) → at < length xs → key y ≡ key (get_or xs at d) → (i : ℕ) → key (get_or (set xs at y) i d) ≡ key (get_or xs i d)
keys_stay key [] at y d lt e i = absurd (omega arith)
keys_stay key (x ∷ xs) zero y d lt e zero = e
keys_stay key (x ∷ xs) zero y d lt e (suc i) = refl
keys_stay key (x ∷ xs) (suc at) y d lt e zero = refl
keys_stay key (x ∷ xs) (suc at) y d lt e (suc i) = keys_stay key xs at y d (omega arith) e i

module _ {K : Type 0} (cmp : K → K → Ordering) (total : IsTotalOrder cmp) where
  pub less_differs : (x y : K) → cmp x y ≡ Less → x ≡ y → ⊥
  less_differs x y less e = less_equal (sym less ∙ ap (λ (k : K). cmp k y) e ∙ tied_itself total y)

  greater_differs : (x y : K) → cmp x y ≡ Greater → x ≡ y → ⊥
  greater_differs x y more e = greater_equal (sym more ∙ ap (λ (k : K). cmp k y) e ∙ tied_itself total y)

  turned : (x y : K) → cmp x y ≡ Greater → cmp y x ≡ Less
  turned x y more = total.antisymm y x ∙ ap ordering_reverse more

  -- keys that are others by equations stand as those do
  stand_as : (a b c d : K) → a ≡ c → b ≡ d → cmp c d ≡ Less → cmp a b ≡ Less
  stand_as a b c d e f less = ap (λ (k : K). cmp k b) e ∙ ap (cmp c) f ∙ less

  module _ {E : Type 0} (key : E → K) (xs : List E) where
    adjacent : Ascends cmp key xs → IsSortedBy (λ a b. is_lt (cmp (key a) (key b))) xs
    adjacent order k d low high =
        let less = order k (k + 1) d (omega arith) (omega arith) in
        ap is_lt (total.antisymm (key (get_or xs (k + 1) d)) (key (get_or xs k d)) ∙ ap ordering_reverse less)

    -- they stand in order for each key that is looked for
    pub in_order_for : Ascends cmp key xs → (k : K) → InOrderFor (λ x. cmp (key x) k) xs
    in_order_for order k = searchable_from_sorted total key xs k (adjacent order)

    -- before the one that is found no other has the key, and none has one that has a gap
    pub none_before : Ascends cmp key xs → (k : K) (at : ℕ) → IsAt (λ x. cmp (key x) k) xs at → (d : E) (j : ℕ) → j < at → key (get_or xs j d) ≡ k → ⊥
    none_before order k at there d j lt e =
        less_equal (sym (order j at d lt there.within) ∙ ap (λ (q : K). cmp q (key (get_or xs at d))) e
        ∙ total.antisymm k (key (get_or xs at d)) ∙ ap ordering_reverse (there.is d))

    pub none_at_gap : (k : K) (at : ℕ) → IsGap (λ x. cmp (key x) k) xs at → (j : ℕ) (d : E) → j < length xs → key (get_or xs j d) ≡ k → ⊥
    none_at_gap k at gap j d lt e = elim (cases_lt j at) [
      | inl below ↦ less_differs _ _ (gap.below j d below) e
      | inr above ↦ greater_differs _ _ (gap.above j d above lt) e
    ]

    -- a write that keeps the key keeps the order
    pub ascends_set : Ascends cmp key xs → (at : ℕ) (y : E) → at < length xs → ((d : E) → key y ≡ key (get_or xs at d)) → Ascends cmp key (set xs at y)
    ascends_set order at y there same i j d lt within =
        let size : length (set xs at y) ≡ length xs = length-set xs at y in
        let stays = keys_stay key xs at y d there (same d) in
        stand_as _ _ _ _ (stays i) (stays j) (order i j d lt (omega arith))

    -- one more in the gap of its key keeps it too
    pub ascends_insert : Ascends cmp key xs → (k : K) (at : ℕ) → IsGap (λ x. cmp (key x) k) xs at → (y : E) → key y ≡ k → Ascends cmp key (insert xs at y)
    ascends_insert order k at gap y same i j d lt within =
        let new = insert xs at y in
        let size : length new ≡ length xs + 1 = length-insert xs at y gap.within in
        let low : (i : ℕ) → i < at → key (get_or new i d) ≡ key (get_or xs i d) = λ i l. ap key (get_or-insert_below xs at y d i l gap.within) in
        let here : (i : ℕ) → i ≡ at → key (get_or new i d) ≡ k = λ i e. ap (λ (m : ℕ). key (get_or new m d)) e ∙ ap key (get_or-insert_at xs at y d gap.within) ∙ same in
        let high : (i : ℕ) → at < i → key (get_or new i d) ≡ key (get_or xs (i - 1) d) =
        λ i l. ap (λ (m : ℕ). key (get_or new m d)) (up i l) ∙ ap key (get_or-insert_above xs at y d (i - 1) (omega arith) gap.within) in
        elim (cases_lt j at) [
          | inl below ↦ stand_as _ _ _ _ (low i (omega arith)) (low j below) (order i j d lt (omega arith))
          | inr above ↦
              elim (cases_lt at j) [
                | inr last ↦ stand_as _ _ _ _ (low i (omega arith)) (here j (omega arith)) (gap.below i d (omega arith))
                | inl behind ↦
                    elim (cases_lt i at) [
                      | inl below ↦ stand_as _ _ _ _ (low i below) (high j behind) (order i (j - 1) d (omega arith) (omega arith))
                      | inr from ↦
                          elim (cases_lt at i) [
                            | inr last ↦ stand_as _ _ _ _ (here i (omega arith)) (high j behind) (turned (key (get_or xs (j - 1) d)) k (gap.above (j - 1) d (omega arith) (omega arith)))
                            | inl further ↦ stand_as _ _ _ _ (high i further) (high j behind) (order (i - 1) (j - 1) d (omega arith) (omega arith))
                          ]
                    ]
              ]
        ]
      where
        up : (i : ℕ) → at < i → i ≡ i - 1 + 1
        up i l = omega arith

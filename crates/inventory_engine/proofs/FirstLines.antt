-- Lines are one, and so is the first one of each key.
use Rattle.std.proofs.Common.{◌≡◌, ℕ, zero, suc, ◌<◌, ◌≤◌, Bool, true, false, Option, Some, None, List, [], ◌∷◌, ◌++◌, take, slice_get, ap, sym, ◌∙◌, refl, arith, subst, inl, inr, append_assoc}
use Rattle.std.proofs.lemmas.Bool.{cases_lt}
use Rattle.std.proofs.lemmas.Option.{none-some, same_Some}
use Rattle.inventory_engine.specs.Sightings.{Key, Sighting, key_of}
use Rattle.inventory_engine.specs.BlocksText.{AreLines, HasKeyAt, IsLineAfter, IsNewest, Telling, line_after}
use Rattle.inventory_engine.specs.computed.KnownTexts.{same_key}
use Rattle.inventory_engine.specs.Laws.{IsFirst, LinesAreOne, OneFirstLine}
use Rattle.inventory_engine.proofs.KeyLemmas.{same_is, same_yes}

-- the newest is one
newest_one : (seen : List Sighting) (key : Key) (o p : Option (List ℕ)) → IsNewest seen key o → IsNewest seen key p → o ≡ p
newest_one seen key None None h g = refl
newest_one seen key None (Some t) h g = absurd (h g.position g.is)
newest_one seen key (Some t) None h g = absurd (g h.position h.is)
newest_one seen key (Some t) (Some u) h g = elim (cases_lt h.position g.position) [
  | inl lt ↦ absurd (h.none_after g.position lt g.is)
  | inr le ↦
      elim (cases_lt g.position h.position) [
        | inl lt ↦ absurd (g.none_after h.position lt h.is)
        | inr ge ↦
            let place : h.position ≡ g.position = omega arith in
            let same : h.is.sighting ≡ g.is.sighting = same_Some h.is.sighting g.is.sighting (sym h.is.there ∙ ap (slice_get seen) place ∙ g.is.there) in
            ap Some (sym h.has_text ∙ ap (λ (s : Sighting). s.text) same ∙ g.has_text)
      ]
]

-- the lines behind the first one
pub behind : (t : Telling) (earlier seen : List Sighting) (s : Sighting) (x : List ℕ) (xs : List (List ℕ)) → AreLines t earlier (s ∷ seen) (x ∷ xs) → AreLines t (earlier ++ s ∷ []) seen xs
behind t earlier seen s x xs h = record {
  sizes = let size = h.sizes in omega arith;
  each = λ i r line e f. subst (λ (l : List Sighting). IsLineAfter t l r line) (sym (append_assoc earlier (s ∷ []) (take i seen))) (h.each (suc i) r line e f);
}

pub lines_one : LinesAreOne
lines_one t earlier [] [] [] h g = refl
lines_one t earlier [] [] (y ∷ ys) h g = let size = g.sizes in absurd (omega arith)
lines_one t earlier [] (x ∷ xs) b h g = let size = h.sizes in absurd (omega arith)
lines_one t earlier (s ∷ seen) [] b h g = let size = h.sizes in absurd (omega arith)
lines_one t earlier (s ∷ seen) (x ∷ xs) [] h g = let size = g.sizes in absurd (omega arith)
lines_one t earlier (s ∷ seen) (x ∷ xs) (y ∷ ys) h g =
    let a = h.each 0 s x refl refl in
    let b = g.each 0 s y refl refl in
    let same : a.newest ≡ b.newest = newest_one (earlier ++ []) (key_of s) a.newest b.newest a.is_newest b.is_newest in
    let first : x ≡ y = a.is_line ∙ ap (line_after t s) same ∙ sym b.is_line in
    let others : xs ≡ ys = lines_one t (earlier ++ s ∷ []) seen xs ys (behind t earlier seen s x xs h) (behind t earlier seen s y ys g) in
    cc

get_taken : (seen : List Sighting) (k i : ℕ) → i < k → slice_get (take k seen) i ≡ slice_get seen i
get_taken [] zero i lt = absurd (omega arith)
get_taken [] (suc k) i lt = refl
get_taken (x ∷ seen) zero i lt = absurd (omega arith)
get_taken (x ∷ seen) (suc k) zero lt = refl
get_taken (x ∷ seen) (suc k) (suc i) lt = get_taken seen k i (omega arith)

taken : (seen : List Sighting) (key : Key) (k i : ℕ) → i < k → HasKeyAt seen key i → HasKeyAt (take k seen) key i
taken seen key k i lt h = record { sighting = h.sighting; there = get_taken seen k i lt ∙ h.there; has_key = h.has_key }

-- no two are first
first_one : (seen : List Sighting) (key : Key) (i k : ℕ) → IsFirst seen key i → IsFirst seen key k → k ≡ i
first_one seen key i k f g = elim (cases_lt i k) [
  | inl lt ↦ absurd (g.none_before i (taken seen key k i lt f.is))
  | inr le ↦
      elim (cases_lt k i) [
        | inl lt ↦ absurd (f.none_before k (taken seen key i k lt g.is))
        | inr ge ↦ omega arith
      ]
]

no_key : (x : Sighting) (key : Key) → false ≡ same_key (key_of x) key → key_of x ≡ key → ⊥
no_key x key e f = let both : false ≡ true = e ∙ same_yes (key_of x) key f in cc

-- behind one with another key
first_more : (x : Sighting) (seen : List Sighting) (key : Key) (i : ℕ) → false ≡ same_key (key_of x) key → IsFirst seen key i → IsFirst (x ∷ seen) key (suc i)
first_more x seen key i e f = record { is = record { sighting = f.is.sighting; there = f.is.there; has_key = f.is.has_key }; none_before = none_in }
  where
    none_in : (j : ℕ) → ¬ HasKeyAt (x ∷ take i seen) key j
    none_in zero h = no_key x key e (ap key_of (same_Some x h.sighting h.there) ∙ h.has_key)
    none_in (suc j) h = f.none_before j (record { sighting = h.sighting; there = h.there; has_key = h.has_key })

first_here : (x : Sighting) (seen : List Sighting) (key : Key) → key_of x ≡ key → IsFirst (x ∷ seen) key 0
first_here x seen key e = record { is = record { sighting = x; there = refl; has_key = e }; none_before = λ j h. none-some h.sighting h.there }

-- one is first
first_there : (seen : List Sighting) (key : Key) (j : ℕ) (s : Sighting) → slice_get seen j ≡ Some s → key_of s ≡ key → (i : ℕ) × IsFirst seen key i × (i ≤ j)
first_there [] key j s there has = absurd (none-some s there)
first_there (x ∷ seen) key j s there has = by_test (same_key (key_of x) key) refl (λ k e. first_there seen key k s e has) j there
  where
    by_test : (b : Bool) → b ≡ same_key (key_of x) key → ((k : ℕ) → slice_get seen k ≡ Some s → (i : ℕ) × IsFirst seen key i × (i ≤ k)) → (j : ℕ) → slice_get (x ∷ seen) j ≡ Some s
        → (i : ℕ) × IsFirst (x ∷ seen) key i × (i ≤ j)
    by_test true e rest j there = (0, first_here x seen key (same_is (key_of x) key (sym e)), omega arith)
    by_test false e rest zero there = absurd (no_key x key e (ap key_of (same_Some x s there) ∙ has))
    by_test false e rest (suc j) there =
        let w = rest j there in
        (suc w.0, first_more x seen key w.0 e w.1, let le = w.2 in omega arith)

pub one_first : OneFirstLine
one_first seen key j h =
    let w = first_there seen key j h.sighting h.there h.has_key in
    record { position = w.0; is_first = w.1; no_later = w.2; only = λ k g. first_one seen key w.0 k w.1 g }

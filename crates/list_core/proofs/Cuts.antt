-- Octets cut at an octet that divides them.
use Rattle.std.proofs.Common.{zero, suc, Option, Some, None, option_map, true, false, cond, eqb, ◌≡◌, ℕ, get_or, ◌+◌, ◌≤◌, ◌<◌, List, [], ◌∷◌, ◌++◌, take, drop, length, ap, sym, subst, ◌∙◌, refl, arith}
use Rattle.std.specs.List.{onto_first}
use Rattle.std.specs.Prelude.{slice_range}
use Rattle.std.proofs.lemmas.Bool.{ne_eqb}
use Rattle.std.proofs.lemmas.Bool.Decides.{nat_tests}
use Rattle.std.proofs.lemmas.List.{append-nil, get_or-drop, length-drop, take-append-drop, drop_more}
use Rattle.list_core.specs.Cuts.{cut_at, HasNo}
use Rattle.list_core.specs.computed.PrivateOctets.{IsFirstPlace}
use Rattle.list_core.proofs.Devices.{take-add}

-- a list at the front of the first part
abbrev pub put_front : List ℕ → List (List ℕ) → List (List ℕ)
put_front xs [] = xs ∷ []
put_front xs (p ∷ ps) = (xs ++ p) ∷ ps

onto_first-put_front : (x : ℕ) (xs : List ℕ) (ps : List (List ℕ)) → onto_first x (put_front xs ps) ≡ put_front (x ∷ xs) ps
onto_first-put_front x xs [] = refl
onto_first-put_front x xs (p ∷ ps) = refl

HasNo-rest : (c x : ℕ) (xs : List ℕ) → HasNo c (x ∷ xs) → HasNo c xs
HasNo-rest c x xs h k l e = h (suc k) (omega arith) e

-- there is a first part
pub cut_some : (c : ℕ) (xs : List ℕ) → (p : List ℕ) × (ps : List (List ℕ)) × (cut_at c xs ≡ p ∷ ps)
cut_some c [] = ([], [], refl)
cut_some c (x ∷ xs) =
    let r = cut_some c xs in
    elim (eqb x c) as (λ b. (p : List ℕ) × (ps : List (List ℕ)) × (cond b ([] ∷ cut_at c xs) (onto_first x (cut_at c xs)) ≡ p ∷ ps)) [
      | true ↦ ([], cut_at c xs, refl)
      | false ↦ (x ∷ r.0, r.1, ap (onto_first x) r.2)
    ]

put_front-nil : (c : ℕ) (xs : List ℕ) → put_front [] (cut_at c xs) ≡ cut_at c xs
put_front-nil c xs = let r = cut_some c xs in rw r.2 refl

-- what has no c goes to the front of the first part
pub cut-append : (c : ℕ) (xs ys : List ℕ) → HasNo c xs → cut_at c (xs ++ ys) ≡ put_front xs (cut_at c ys)
cut-append c [] ys h = sym (put_front-nil c ys)
cut-append c (x ∷ xs) ys h =
    let other : eqb x c ≡ false = ne_eqb x c (h 0 (omega arith)) in
    rw other (ap (onto_first x) (cut-append c xs ys (HasNo-rest c x xs h)) ∙ onto_first-put_front x xs (cut_at c ys))

-- a whole part, and what follows its c
pub cut-part : (c : ℕ) (part rest : List ℕ) → HasNo c part → cut_at c (part ++ c ∷ rest) ≡ part ∷ cut_at c rest
cut-part c part rest h =
    let same : eqb c c ≡ true = grind (arith, nat_tests) in
    let first : cut_at c (c ∷ rest) ≡ [] ∷ cut_at c rest = rw same refl in
    cut-append c part (c ∷ rest) h ∙ ap (put_front part) first ∙ ap (λ l. l ∷ cut_at c rest) (append-nil part)

-- what follows the last c
pub cut-rest : (c : ℕ) (rest : List ℕ) → HasNo c rest → cut_at c rest ≡ rest ∷ []
cut-rest c rest h = ap (cut_at c) (sym (append-nil rest)) ∙ cut-append c rest [] h ∙ ap (λ l. l ∷ []) (append-nil rest)

-- what stands in neither of two lists stands not in both
pub HasNo-append : (c : ℕ) (xs ys : List ℕ) → HasNo c xs → HasNo c ys → HasNo c (xs ++ ys)
HasNo-append c [] ys a b = b
HasNo-append c (x ∷ xs) ys a b = λ k. elim k as (λ k. k < length (x ∷ (xs ++ ys)) → get_or (x ∷ (xs ++ ys)) k 0 ≡ c → ⊥) [
  | zero ↦ (λ l e. a 0 (omega arith) e)
  | suc j ↦ (λ l e. HasNo-append c xs ys (HasNo-rest c x xs a) b j (omega arith) e)
]

-- the first c, past a front that has none
pub first-past : (c : ℕ) (xs : List ℕ) (n : ℕ) (i : Option ℕ) → n ≤ length xs → HasNo c (take n xs) → IsFirstPlace c (drop n xs) i → IsFirstPlace c xs (option_map (λ k. n + k) i)
first-past c xs n None l a b =
    let h = HasNo-append c (take n xs) (drop n xs) a b in rw take-append-drop at h
first-past c xs n (Some i) l a b =
    (let h = simp length-drop at b.0 in omega (arith, h), sym (get_or-drop n xs i 0) ∙ b.1, rw take-add (HasNo-append c (take n xs) (take i (drop n xs)) a b.2))

-- octets, cut at the place of a c
pub split_at : (c : ℕ) (xs : List ℕ) (n : ℕ) → n < length xs → get_or xs n 0 ≡ c → xs ≡ take n xs ++ c ∷ drop (n + 1) xs
split_at c xs n l e = sym (take-append-drop n xs) ∙ ap (λ r. take n xs ++ r) (drop_more xs n 0 l ∙ ap (λ x. x ∷ drop (n + 1) xs) e)

-- the parts at the first c
pub cut-first : (c : ℕ) (xs : List ℕ) (n : ℕ) → IsFirstPlace c xs (Some n) → cut_at c xs ≡ take n xs ∷ cut_at c (drop (n + 1) xs)
cut-first c xs n h = ap (cut_at c) (split_at c xs n h.0 h.1) ∙ cut-part c (take n xs) (drop (n + 1) xs) h.2

-- a piece more that has no c
pub HasNo-piece : (c : ℕ) (xs : List ℕ) (n m : ℕ) → HasNo c (take n xs) → HasNo c (slice_range xs n (n + m)) → HasNo c (take (n + m) xs)
HasNo-piece c xs n m before piece =
    rw take-add (HasNo-append c (take n xs) (take m (drop n xs)) before (subst (HasNo c) (range xs n m) piece)) where
      range : (xs : List ℕ) (n m : ℕ) → slice_range xs n (n + m) ≡ take m (drop n xs)
      range xs n m = ap (λ (k : ℕ). take k (drop n xs)) (omega arith)

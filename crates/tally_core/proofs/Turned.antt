-- A loop that changes each element of a list in turn, from the front on.
use Rattle.std.proofs.Common.{add-one, ◌≡◌, ℕ, suc, zero, ◌+◌, ◌<◌, List, [], ◌∷◌, ◌++◌, map, take, drop, length, get_or, refl, ap, arith}
use Rattle.std.proofs.Math.ListN.{set}

module _ {X : Type 0} (f : X → X) where
  -- the element at which the loop stands is as it was
  pub turned_at : (xs : List X) (i : ℕ) (d : X) → get_or (map f (take i xs) ++ drop i xs) i d ≡ get_or xs i d
  turned_at [] zero d = refl
  turned_at [] (suc i) d = refl
  turned_at (x ∷ xs) zero d = refl
  turned_at (x ∷ xs) (suc i) d = turned_at xs i d

  -- it is changed
  turns : (xs : List X) (i : ℕ) (d : X) → i < length xs → set (map f (take i xs) ++ drop i xs) i (f (get_or xs i d)) ≡ map f (take (suc i) xs) ++ drop (suc i) xs
  turns [] i d inside = absurd (omega arith)
  turns (x ∷ xs) zero d inside = refl
  turns (x ∷ xs) (suc i) d inside = ap (λ l. f x ∷ l) (turns xs i d (omega arith))

  -- or stays
  stays : (xs : List X) (i : ℕ) (d : X) → i < length xs → f (get_or xs i d) ≡ get_or xs i d → map f (take i xs) ++ drop i xs ≡ map f (take (suc i) xs) ++ drop (suc i) xs
  stays [] i d inside same = absurd (omega arith)
  stays (x ∷ xs) zero d inside same = rw same refl
  stays (x ∷ xs) (suc i) d inside same = ap (λ l. f x ∷ l) (stays xs i d (omega arith) same)

  pub turned_more : (xs : List X) (i : ℕ) (d : X) → i < length xs → set (map f (take i xs) ++ drop i xs) i (f (get_or xs i d)) ≡ map f (take (i + 1) xs) ++ drop (i + 1) xs
  turned_more xs i d inside = rw add-one (turns xs i d inside)

  pub turned_same : (xs : List X) (i : ℕ) (d : X) → i < length xs → f (get_or xs i d) ≡ get_or xs i d → map f (take i xs) ++ drop i xs ≡ map f (take (i + 1) xs) ++ drop (i + 1) xs
  turned_same xs i d inside same = rw add-one (stays xs i d inside same)

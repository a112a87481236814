-- What holds of each element of a list, while a loop goes over it.
use Rattle.std.proofs.Common.{◌≡◌, ◌↔◌, ℕ, suc, ◌+◌, ◌<◌, List, ◌∷◌, length, drop, get_or, sym, ap, subst, ◌∙◌, add-one, drop-cons}
use Rattle.std.specs.List.{AllByRecursion}

-- what is left begins with the element at the place
pub left_from : {X : Type 0} (xs : List X) (i : ℕ) (x : X) → i < length xs → x ≡ get_or xs i x → drop i xs ≡ x ∷ drop (i + 1) xs
left_from xs i x inside is = rw add-one (drop-cons xs i x inside ∙ ap (λ y. y ∷ drop (suc i) xs) (sym is))

-- where what is left decides whether P holds of each, what is left behind a good element does
pub each_left : {X : Type 0} (P : X → Type 0) (xs : List X) (i : ℕ) (x : X) → i < length xs → x ≡ get_or xs i x → P x
    → AllByRecursion P (drop i xs) ↔ AllByRecursion P xs → AllByRecursion P (drop (i + 1) xs) ↔ AllByRecursion P xs
each_left P xs i x inside is good both =
    let first = left_from xs i x inside is in
    (λ left. both.0 (subst (AllByRecursion P) (sym first) (good, left)), λ all. (subst (AllByRecursion P) first (both.1 all)).1)

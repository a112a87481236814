-- Members in memory of their own, from one place on.
use Rattle.std.proofs.Common.{◌≡◌, ◌+◌, ◌<◌, ℕ, zero, suc, List, [], ◌∷◌, length, drop, get_or, ap, sym, arith}
use Rattle.mms_data.specs.declared.value.Value.{Value}
use Rattle.mms_data.specs.Value.{data_of, datas}

-- the value at a place, and those behind it
pub split_at : {A : Type 0} (xs : List (Value A)) (i : ℕ) (v : Value A) → i < length xs → v ≡ get_or xs i v → datas (drop i xs) ≡ data_of v ∷ datas (drop (i + 1) xs)
split_at [] i v within is = absurd (omega arith)
split_at {A} (x ∷ xs) zero v within is = ap (λ (y : Value A). data_of y ∷ datas xs) (sym is)
split_at (x ∷ xs) (suc i) v within is =
    let next : suc i + 1 ≡ suc (i + 1) = omega arith in
    rw next (split_at xs i v (omega arith) is)

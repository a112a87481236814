-- Octets whose last has its unused bits set to 0.
use Rattle.std.proofs.Common.{◌≡◌, ℕ, zero, suc, ◌-◌, ◌%◌, ◌^◌, List, [], ◌∷◌, ◌++◌, length, take, refl, ap, arith}
use Rattle.std.specs.Prelude.{slice_index}
use Rattle.mms_data.specs.Contents.{cleared}

pub cleared_is : (unused : ℕ) (o : List ℕ) (n : ℕ) → length o ≡ suc n → take n o ++ (slice_index o n - slice_index o n % 2 ^ unused) ∷ [] ≡ cleared unused o
cleared_is unused [] n size = absurd (omega arith)
cleared_is unused (x ∷ []) n size = let none : n ≡ 0 = omega arith in rw none refl
cleared_is unused (x ∷ y ∷ ys) zero size = absurd (omega arith)
cleared_is unused (x ∷ y ∷ ys) (suc n) size = ap (λ (l : List ℕ). x ∷ l) (cleared_is unused (y ∷ ys) n (omega arith))

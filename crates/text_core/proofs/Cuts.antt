-- Texts of which more than is wanted is known, and cut behind it.
use Rattle.std.proofs.Common.{◌≡◌, ℕ, ℤ, pos, negsuc, true, false, true≢false, nat_abs, int_le, ◌≤◌, List, ◌∷◌, ◌++◌, length, take, ap, refl, sym, ◌∙◌, arith}
use lib.Dec.{leb-zero}
use Rattle.std.specs.Fmt.{decimal, signed_decimal}
use Rattle.std.proofs.lemmas.List.{take-append-le, take-take, take_all}

-- a text, and what stands behind it
pub front_of : (text rest whole : List ℕ) (n : ℕ) → whole ≡ text ++ rest → n ≡ length text → take n whole ≡ text
front_of text rest whole n p e = ap (take n) p ∙ ap (λ k. take k (text ++ rest)) e ∙ take-append-le (length text) text rest (omega arith) ∙ take_all (length text) text (omega arith)

-- of what was reached of a text and what stands behind it, so many
pub reached_front : (text rest whole reached : List ℕ) (n : ℕ) → reached ≡ take 32 whole → whole ≡ text ++ rest → n ≡ length text → n ≤ 32 → take n reached ≡ text
reached_front text rest whole reached n r p e small = ap (take n) r ∙ take-take n 32 whole small ∙ front_of text rest whole n p e

-- the digits of an integer that is not negative, and of one that is
pub above_zero : (z : ℤ) → int_le (pos 0) z ≡ true → decimal (nat_abs z) ≡ signed_decimal z
above_zero (pos n) h = refl
above_zero (negsuc n) h = cc

pub below_zero : (z : ℤ) → int_le (pos 0) z ≡ false → 45 ∷ decimal (nat_abs z) ≡ signed_decimal z
below_zero (pos n) h = absurd (true≢false (sym (leb-zero n) ∙ h))
below_zero (negsuc n) h = refl

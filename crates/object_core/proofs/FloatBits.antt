-- Which bits are those of a number (IEEE 754): where the field of the exponent is not all ones.
use Rattle.std.proofs.Common.{◌≡◌, ℕ, zero, suc, ◌%◌, ◌/◌, ◌<◌, ◌≤◌, Bool, true, false, cond, refl, arith}
use Rattle.std.proofs.lemmas.Bool.{eq-eqb, ne_eqb}
use Rattle.std.specs.Float.{float_is_finite}
use lib.Ieee.{Format, binary32, binary64, inf, nan, of_bits, of_fields, odd, ones}

finite_odd : (d : ℕ) (s : Bool) (n k l : ℕ) → float_is_finite (odd d s n k l) ≡ true
unfolding odd float_is_finite
finite_odd d s zero k l = refl
finite_odd d s (suc n) k l = refl

finite_fields : (f : Format) (s : Bool) (x t : ℕ) → (x ≡ ones f → ⊥) → float_is_finite (of_fields f s x t) ≡ true
unfolding of_fields
finite_fields f s zero t other = finite_odd _ s t _ _
finite_fields f s (suc x) t other = rw (ne_eqb (suc x) (ones f) other) (finite_odd _ s _ _ _)

none_of : (s b : Bool) → float_is_finite (cond b (inf s) nan) ≡ false
unfolding float_is_finite
none_of s true = refl
none_of s false = refl

infinite_fields : (f : Format) (s : Bool) (x t : ℕ) → x ≡ ones f → float_is_finite (of_fields f s x t) ≡ false
unfolding of_fields
infinite_fields binary32 s zero t all = absurd (omega (arith, all))
infinite_fields binary64 s zero t all = absurd (omega (arith, all))
infinite_fields f s (suc x) t all = rw (eq-eqb (suc x) (ones f) all) (none_of s _)

-- of a binary32
pub finite_single : (b : ℕ) → b % 0x8000_0000 < 0x7f80_0000 → float_is_finite (of_bits binary32 b) ≡ true
unfolding of_bits
finite_single b small = finite_fields binary32 _ (b % 0x8000_0000 / 0x80_0000) _ (λ e. omega (arith, e))

pub infinite_single : (b : ℕ) → 0x7f80_0000 ≤ b % 0x8000_0000 → float_is_finite (of_bits binary32 b) ≡ false
unfolding of_bits
infinite_single b large = infinite_fields binary32 _ (b % 0x8000_0000 / 0x80_0000) _ (omega arith)

-- of a binary64
pub finite_double : (b : ℕ) → b % 0x8000_0000_0000_0000 < 0x7ff0_0000_0000_0000 → float_is_finite (of_bits binary64 b) ≡ true
unfolding of_bits
finite_double b small = finite_fields binary64 _ (b % 0x8000_0000_0000_0000 / 0x10_0000_0000_0000) _ (λ e. omega (arith, e))

pub infinite_double : (b : ℕ) → 0x7ff0_0000_0000_0000 ≤ b % 0x8000_0000_0000_0000 → float_is_finite (of_bits binary64 b) ≡ false
unfolding of_bits
infinite_double b large = infinite_fields binary64 _ (b % 0x8000_0000_0000_0000 / 0x10_0000_0000_0000) _ (omega arith)

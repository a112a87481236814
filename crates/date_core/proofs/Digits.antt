-- The digits of numbers, read from the table of pairs.
use Rattle.std.proofs.Common.{◌≡◌, ℕ, zero, suc, ◌+◌, ◌*◌, ◌/◌, ◌%◌, ◌<◌, Bool, true, ◌&&◌, eqb, get_or, inl, inr, arith, refl}
use Rattle.std.proofs.lemmas.Bool.{and_parts, cases_order, eqb-true}
use Rattle.date_core.specs.declared.date.TheConstants.{PAIRS}

-- the pairs below a number are the digits of their places
abbrev are_digits : ℕ → Bool
are_digits zero = true
are_digits (suc n) = (eqb (get_or PAIRS (2 * n) 0) (48 + n / 10) && eqb (get_or PAIRS (2 * n + 1) 0) (48 + n % 10)) && are_digits n

below : (count n : ℕ) → are_digits count ≡ true → n < count → (get_or PAIRS (2 * n) 0 ≡ 48 + n / 10) × (get_or PAIRS (2 * n + 1) 0 ≡ 48 + n % 10)
below zero n h lt = absurd (omega arith)
below (suc count) n h lt =
    let both = and_parts _ (are_digits count) h in
    elim (cases_order n count) [
      | inl same ↦ let here = and_parts _ _ both.0 in rw same (eqb-true _ _ here.0, eqb-true _ _ here.1)
      | inr (inl lower) ↦ below count n both.1 lower
      | inr (inr over) ↦ absurd (omega arith)
    ]

pub digits_at : (n : ℕ) → n < 100 → (get_or PAIRS (2 * n) 0 ≡ 48 + n / 10) × (get_or PAIRS (2 * n + 1) 0 ≡ 48 + n % 10)
digits_at n h = below 100 n refl h

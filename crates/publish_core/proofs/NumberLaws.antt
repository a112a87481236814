-- Numbers that go on at 1 past the greatest.
use Rattle.std.proofs.Common.{◌≡◌, ℕ, zero, suc, ◌+◌, ◌-◌, ◌%◌, ◌<◌, ◌≤◌, ◌==◌, Bool, true, false, if◌then◌else◌, refl, subst, arith}
use Rattle.std.proofs.lemmas.Bool.{eqb-true, eqb-false}
use Rattle.publish_core.specs.Numbers.{state_number, sequence_number, number_behind}
use Rattle.publish_core.specs.Laws.{NumbersGoOn}

rest_after : (n : ℕ) → (n + 1) % 4294967295 + 1 ≡ number_behind (n % 4294967295 + 1)
rest_after n = in_case (n % 4294967295 + 1 == 4294967295) refl
  where
    in_case : (b : Bool) → (n % 4294967295 + 1 == 4294967295) ≡ b → (n + 1) % 4294967295 + 1 ≡ (if b then 1 else n % 4294967295 + 1 + 1)
    in_case true e = let greatest : n % 4294967295 + 1 ≡ 4294967295 = eqb-true _ _ e in omega arith
    in_case false e = let less : ¬ (n % 4294967295 + 1 ≡ 4294967295) = eqb-false _ _ e in omega arith

pub state_number_next : (first c : ℕ) → state_number first (c + 1) ≡ number_behind (state_number first c)
state_number_next first c =
    let e : first - 1 + c + 1 ≡ first - 1 + (c + 1) = omega arith in
    subst (λ (x : ℕ). x % 4294967295 + 1 ≡ number_behind ((first - 1 + c) % 4294967295 + 1)) e (rest_after (first - 1 + c))

pub sequence_number_next : (k : ℕ) → sequence_number (suc k) ≡ number_behind (sequence_number k)
sequence_number_next zero = refl
sequence_number_next (suc k) =
    let e : k + 1 ≡ suc k = omega arith in
    subst (λ (x : ℕ). x % 4294967295 + 1 ≡ number_behind (k % 4294967295 + 1)) e (rest_after k)

-- frame k has the sequence number k, up to the greatest
pub sequence_number_low : (k : ℕ) → k ≤ 4294967295 → sequence_number k ≡ k
sequence_number_low zero low = refl
sequence_number_low (suc k) low = omega arith

pub sequence_number_most : (k : ℕ) → sequence_number k ≤ 4294967295
sequence_number_most zero = omega arith
sequence_number_most (suc k) = omega arith

-- without a wrap the numbers only go up
pub state_number_plain : (first c : ℕ) → 0 < first → first + c ≤ 4294967295 → state_number first c ≡ first + c
state_number_plain first c some low = omega arith

pub state_number_first : (first : ℕ) → 0 < first → first ≤ 4294967295 → state_number first 0 ≡ first
state_number_first first some low = omega (arith, state_number_plain first 0 some (omega arith))

pub numbers_go_on : NumbersGoOn
numbers_go_on = record {
  first_state = state_number_first;
  next_state = λ first c. let e : c + 1 ≡ suc c = omega arith in subst (λ (x : ℕ). state_number first x ≡ number_behind (state_number first c)) e (state_number_next first c);
  first_frame = refl;
  next_frame = sequence_number_next;
}

use Rattle.std.proofs.Common.{◌+◌, ◌*◌, arith, inl, inr}
use Rattle.std.proofs.lemmas.Bool.{cases_lt}
use Rattle.std.proofs.lemmas.Nat.{mul-le}
use Rattle.subscribe_core.proofs.twice.first_twice_of_few.Goals as goal

pub returns-clause-none : goal.returns-clause-none
returns-clause-none g c = λ none i inside low.
    let all = rw none at c.first_twice.ensures in
    let next = c.isqrt.result + 1 in
    elim (cases_lt i (8 * next)) [
      | inl below ↦ all i (omega (arith, inside, below))
      | inr above ↦
          let squares = mul-le (8 * next) (8 * next) i i above above in
          absurd (omega (arith, squares, low, c.isqrt.ensures.next_square_gt))
    ]

use Rattle.std.proofs.Common.{◌<◌, ℕ}
use Rattle.publish_core.specs.Table.{IsGood, step_at}
use Rattle.publish_core.proofs.table.first_bad_step.Given as goal

abbrev pub invariant-loop-i : goal.invariant-loop-i
invariant-loop-i l = (k : ℕ) → k < l.i → IsGood (step_at l.steps k)

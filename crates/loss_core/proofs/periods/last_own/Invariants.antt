use Rattle.std.proofs.Common.{◌≡◌, ◌≤◌, length, take}
use Rattle.loss_core.specs.Periods.{is_own, last_number}
use Rattle.loss_core.proofs.periods.last_own.Given as goal

abbrev pub invariant-loop-period : goal.invariant-loop-period
invariant-loop-period g l = record {
  within : l.period-index ≤ length l.periods;
  found : l.last ≡ last_number (is_own l.id) (take l.period-index l.periods);
}

use Rattle.std.proofs.Common.{◌∙◌, Some, arith, ap, sym}
use Rattle.loss_core.specs.Periods.{is_own}
use Rattle.loss_core.proofs.PeriodLemmas.{last_passed, last_taken}
use Rattle.loss_core.proofs.periods.last_own.Goals as goal
use Rattle.loss_core.proofs.periods.last_own.Goals.{then-is_own, else-is_own}

pub loop-period-preserved : goal.loop-period-preserved
loop-period-preserved g c = record {
  within = omega (arith, c.loop-period-test.true);
  found = elim c.if-is_own.branch [
    | then-is_own w ↦ last_taken (is_own c.args.id.now) c.args.periods.now c.loop-period.period-index c.period-item.result _ c.loop-period-test.true c.period-item.is (sym c.is_own.ensures ∙ w.if-is_own.true) (w.last-is ∙ ap Some w.number.ensures)
    | else-is_own w ↦ last_passed (is_own c.args.id.now) c.args.periods.now c.loop-period.period-index c.period-item.result _ _ c.loop-period-test.true c.period-item.is (sym c.is_own.ensures ∙ w.if-is_own.false) w.last-is c.loop-period.invariant.found
  ];
}

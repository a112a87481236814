use Rattle.std.proofs.Common.{◌∙◌, Some, arith, ap, sym}
use Rattle.loss_core.specs.Periods.{is_plain}
use Rattle.loss_core.proofs.PeriodLemmas.{last_passed, last_taken}
use Rattle.loss_core.proofs.periods.last_plain.Goals as goal
use Rattle.loss_core.proofs.periods.last_plain.Goals.{then-is_plain, else-is_plain}

pub loop-period-preserved : goal.loop-period-preserved
loop-period-preserved g c = record {
  within = omega (arith, c.loop-period-test.true);
  found = elim c.if-is_plain.branch [
    | then-is_plain w ↦ last_taken is_plain c.args.periods.now c.loop-period.period-index c.period-item.result _ c.loop-period-test.true c.period-item.is (sym c.is_plain.ensures ∙ w.if-is_plain.true) (w.last-is ∙ ap Some w.number.ensures)
    | else-is_plain w ↦ last_passed is_plain c.args.periods.now c.loop-period.period-index c.period-item.result _ _ c.loop-period-test.true c.period-item.is (sym c.is_plain.ensures ∙ w.if-is_plain.false) w.last-is c.loop-period.invariant.found
  ];
}

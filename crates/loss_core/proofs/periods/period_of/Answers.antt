use Rattle.std.proofs.Common.{subst, sym, ◌∙◌}
use Rattle.loss_core.specs.Periods.{IsPeriodOf, is_own, is_plain}
use Rattle.loss_core.proofs.PeriodLemmas.{last_in_range}
use Rattle.loss_core.proofs.periods.period_of.Goals as goal

pub returns-in-Some-clause-range : goal.returns-in-Some-clause-range
returns-in-Some-clause-range g c = λ are. subst IsPeriodOf (sym c.last_own.ensures ∙ c.in-Some.is) (last_in_range (is_own c.args.id.now) c.args.periods.now are)

pub returns-in-None-clause-range : goal.returns-in-None-clause-range
returns-in-None-clause-range g c = λ are. subst IsPeriodOf (sym c.last_plain.ensures) (last_in_range is_plain c.args.periods.now are)

use Rattle.std.proofs.Common.{List, ap, subst, sym, ◌∙◌}
use Rattle.loss_core.specs.Periods.{ArePeriods, Period, period_of}
use Rattle.loss_engine.proofs.losses.Losses.period.Goals as goal

pub returns-clause-is : goal.returns-clause-is
returns-clause-is g c = c.period_of.ensures.is ∙ ap (λ (l : List Period). period_of l c.args.id.now) c.as_slice.ensures.value

pub returns-clause-range : goal.returns-clause-range
returns-clause-range g c = c.period_of.ensures.range (subst ArePeriods (sym c.as_slice.ensures.value) c.args.self.now.are_periods)

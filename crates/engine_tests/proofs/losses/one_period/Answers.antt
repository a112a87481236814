use Rattle.std.proofs.Common.{[], ◌∷◌, ◌++◌, None, List, ap₂, arith, subst, sym, ◌∙◌}
use Rattle.loss_core.specs.Periods.{ArePeriods, Period}
use Rattle.loss_core.proofs.PeriodLemmas.{and_others, none_are}
use Rattle.engine_tests.proofs.losses.one_period.Goals as goal

pub returns-in-Ok : goal.returns-in-Ok
returns-in-Ok g c =
    subst ArePeriods (sym (c.in-Ok.ensures.items ∙ ap₂ (λ (l : List Period) (p : Period). l ++ p ∷ []) c.new-periods.ensures.items c.for_all.ensures))
    (and_others (record { id = None; number = 4000 }) [] (omega arith, omega arith) none_are)

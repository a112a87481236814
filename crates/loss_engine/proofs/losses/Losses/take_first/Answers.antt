use Rattle.std.proofs.Common.{None, Option, ℕ, subst}
use Rattle.loss_engine.specs.computed.Tracking.{CountsAs}
use Rattle.loss_engine.proofs.Kept.{counts_new}
use Rattle.loss_engine.proofs.losses.Losses.take_first.Goals as goal

pub returns-clause-told : goal.returns-clause-told
returns-clause-told g c =
    let first = c.first_came.result in
    subst (λ (p : Option ℕ). CountsAs p None c.args.sample (first, None)) c.period-period.ensures.is
    (counts_new c.period-period.result c.args.sample first (c.first_came.ensures c.args.sample.moment))

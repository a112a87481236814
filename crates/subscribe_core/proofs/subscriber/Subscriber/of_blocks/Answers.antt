use Rattle.std.proofs.Common.{[], sym, subst}
use Rattle.subscribe_core.specs.State.{State, StandsAfter}
use Rattle.subscribe_core.proofs.Runs.{fresh_stands}
use Rattle.subscribe_core.proofs.subscriber.Subscriber.of_blocks.Goals as goal

pub returns-in-Ok-clause-stands : goal.returns-in-Ok-clause-stands
returns-in-Ok-clause-stands g c = subst (λ (s : State _). StandsAfter [] s) (sym c.in-Ok.ensures.fresh) (fresh_stands c.args.blocks.items)

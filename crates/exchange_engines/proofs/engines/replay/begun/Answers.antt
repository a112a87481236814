use Rattle.std.proofs.Common.{arith}
use Rattle.std.specs.Prelude.{vec_capacity}
use Rattle.exchange_engines.proofs.ReplayLemmas.{opened}
use Rattle.exchange_engines.proofs.engines.replay.begun.Goals as goal

pub returns-clause-begun : goal.returns-clause-begun
returns-clause-begun g c = λ blocks fresh.
    opened c.args.manner blocks c.open_mode.new.subscriber.state (vec_capacity c.open_mode.new.entries) (c.in_ok-open_mode.ensures.state blocks fresh)
    (λ alone. let some = c.in_ok-entries.ensures.room alone in omega (arith, some, c.in_ok-open_mode.ensures.capacity))

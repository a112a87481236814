use Rattle.exchange_engines.proofs.PublishLemmas.{runs_first}
use Rattle.exchange_engines.proofs.engines.publish.running.Goals as goal

pub returns-in-Setup : goal.returns-in-Setup
returns-in-Setup g c = λ p h.
    runs_first p c.in-Setup.control c.in-Setup.first c.in-Setup.steps c.as_slice.result.now c.set_up.result (rw c.in-Setup.is at h)
    c.as_slice.ensures.value c.set_up.ensures.stands c.set_up.ensures.sound c.set_up.ensures.cause

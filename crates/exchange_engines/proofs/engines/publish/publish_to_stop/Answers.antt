use Rattle.engine_core.proofs.EngineSteps.{alike_self}
use Rattle.exchange_engines.specs.computed.PublishStep.{publish_text}
use Rattle.exchange_engines.proofs.PublishLemmas.{publish_is}
use Rattle.exchange_engines.proofs.engines.publish.publish_to_stop.Goals as goal

pub returns-clause-text : goal.returns-clause-text
returns-clause-text g c = let r = c.run_to_stop.ensures.text publish_text (alike_self _) in (r.0, r.1, record { by = publish_text; is = publish_is; is_left = r.2 })

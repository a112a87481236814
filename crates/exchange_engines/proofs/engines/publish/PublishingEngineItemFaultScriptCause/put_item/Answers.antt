use Rattle.exchange_engines.specs.computed.PublishStep.{progress_after}
use Rattle.exchange_engines.proofs.PublishLemmas.{publishes}
use Rattle.exchange_engines.proofs.engines.publish.PublishingEngineItemFaultScriptCause.put_item.Goals as goal

pub returns-in-Ok-clause-step : goal.returns-in-Ok-clause-step
returns-in-Ok-clause-step g c = λ before stands.
    publishes before c.args._number c.args.item c.take_item.new.stage c.args.line.now.items c.take_item.new.line.items (c.in-Ok.ensures.item (progress_after before) stands)

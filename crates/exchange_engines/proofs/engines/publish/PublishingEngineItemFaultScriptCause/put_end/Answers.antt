use Rattle.engine_core.proofs.Ends.{no_end, no_line}
use Rattle.exchange_engines.proofs.engines.publish.PublishingEngineItemFaultScriptCause.put_end.Goals as goal

pub returns-clause-ends : goal.returns-clause-ends
returns-clause-ends g c = λ items stands. no_end items

pub returns-clause-line : goal.returns-clause-line
returns-clause-line g c = λ items stands lines none. no_line lines c.args._at none

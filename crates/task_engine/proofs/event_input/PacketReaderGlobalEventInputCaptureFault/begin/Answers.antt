use Rattle.std.proofs.Common.{◌∙◌}
use Rattle.task_engine.proofs.CaptureLooks.{capture_looks}
use Rattle.task_engine.proofs.event_input.PacketReaderGlobalEventInputCaptureFault.begin.Goals as goal

pub returns-clause-looks : goal.returns-clause-looks
returns-clause-looks g c = let new = c.new.ensures in capture_looks g.R.Source.left g.R.Source.ending c.new.result new.stage (new.ending ∙ c.requires) new.none

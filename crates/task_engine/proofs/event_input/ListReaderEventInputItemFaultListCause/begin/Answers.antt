use Rattle.std.proofs.Common.{◌∙◌}
use Rattle.task_engine.proofs.ListLooks.{list_looks}
use Rattle.task_engine.proofs.event_input.ListReaderEventInputItemFaultListCause.begin.Goals as goal

pub returns-clause-looks : goal.returns-clause-looks
returns-clause-looks g c = let new = c.new.ensures in list_looks g.R.Source.left g.R.Source.ending _ (new.ending ∙ c.requires) new.taken new.held new.settled

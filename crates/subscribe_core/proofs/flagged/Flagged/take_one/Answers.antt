use Rattle.subscribe_core.proofs.Flagging.{popped_flagged, popped_taken}
use Rattle.subscribe_core.proofs.flagged.Flagged.take_one.Goals as goal

pub returns-clause-flagged : goal.returns-clause-flagged
returns-clause-flagged g c = popped_flagged _ _ _ c.pop.ensures.items

pub returns-clause-taken : goal.returns-clause-taken
returns-clause-taken g c = popped_taken _ _ _ c.pop.ensures.items

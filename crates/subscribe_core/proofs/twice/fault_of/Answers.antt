use Rattle.subscribe_core.proofs.Fresh.{apart_from}
use Rattle.subscribe_core.proofs.twice.fault_of.Goals as goal

pub returns-in-None : goal.returns-in-None
returns-in-None g c = (apart_from c.args.blocks.now c.in-None.ensures, c.requires)

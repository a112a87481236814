use Rattle.inventory_engine.proofs.BlockBack.{blocks_back}
use Rattle.inventory_engine.proofs.laws.blocks_read_back.Goals as goal

pub returns : goal.returns
returns g c = blocks_back

use Rattle.subscribe_core.proofs.Runs.{blocks_are_alone}
use Rattle.subscribe_core.proofs.laws.each_block_alone.Goals as goal

pub returns : goal.returns
returns g c = blocks_are_alone

use Rattle.subscribe_core.proofs.Counts.{skips_add_up}
use Rattle.subscribe_core.proofs.laws.skips_add_up.Goals as goal

pub returns : goal.returns
returns c = skips_add_up

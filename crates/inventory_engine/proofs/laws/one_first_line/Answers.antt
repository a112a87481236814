use Rattle.inventory_engine.proofs.FirstLines.{one_first}
use Rattle.inventory_engine.proofs.laws.one_first_line.Goals as goal

pub returns : goal.returns
returns c = one_first

use Rattle.inventory_engine.proofs.FirstLines.{lines_one}
use Rattle.inventory_engine.proofs.laws.lines_are_one.Goals as goal

pub returns : goal.returns
returns c = lines_one

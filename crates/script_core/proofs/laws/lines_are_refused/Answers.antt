use Rattle.script_core.proofs.LineLaws.{lines_are_refused}
use Rattle.script_core.proofs.laws.lines_are_refused.Goals as goal

pub returns : goal.returns
returns g c = lines_are_refused

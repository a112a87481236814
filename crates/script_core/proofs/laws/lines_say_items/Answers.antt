use Rattle.script_core.proofs.LineLaws.{lines_say_items}
use Rattle.script_core.proofs.laws.lines_say_items.Goals as goal

pub returns : goal.returns
returns g c = lines_say_items

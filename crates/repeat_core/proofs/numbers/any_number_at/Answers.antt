use Rattle.std.proofs.Common.{sym}
use Rattle.repeat_core.proofs.NumberLaws.{number_spelled}
use Rattle.repeat_core.proofs.numbers.any_number_at.Goals as goal

pub returns-in-Ok : goal.returns-in-Ok
returns-in-Ok c = number_spelled c.args.octets.now c.args.header.now c.in-Ok.number c.requires.ordered c.requires.inside (sym c.in-Ok.ensures)

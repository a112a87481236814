use Rattle.date_core.proofs.Digits.{digits_at}
use Rattle.date_core.proofs.date.digits_of.Goals as goal

pub returns : goal.returns
returns c = let d = digits_at c.args.number c.requires in rw (d.0, d.1)

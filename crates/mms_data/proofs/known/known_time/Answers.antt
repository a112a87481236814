use Rattle.std.proofs.Common.{ap, sym, ◌∙◌, Ok}
use Rattle.mms_data.specs.declared.time.UtcTime.{UtcTime}
use Rattle.mms_data.proofs.GoodMembers.{eight_known}
use Rattle.mms_data.proofs.known.known_time.Goals as goal

pub time_of-requires : goal.time_of-requires
time_of-requires c = (eight_known c.args.at c.args.contents.now c.requires.0 c.requires.1).0

pub returns : goal.returns
returns c = (eight_known c.args.at c.args.contents.now c.requires.0 c.requires.1).1 ∙ ap (λ (t : UtcTime). Ok t) (sym c.time_of.ensures)

use Rattle.mms_data.proofs.GoodMembers.{one_octet}
use Rattle.mms_data.proofs.known.known_boolean.Goals as goal

pub bounds-contents-0 : goal.bounds-contents-0
bounds-contents-0 c = (one_octet c.args.at c.args.contents.now c.requires.0 c.requires.1).0

pub returns : goal.returns
returns c = (one_octet c.args.at c.args.contents.now c.requires.0 c.requires.1).1

use Rattle.std.proofs.Common.{refl}
use Rattle.loss_core.proofs.Known.{stands_first}
use Rattle.loss_core.proofs.sender.Sender.of_first.Goals as goal

pub returns : goal.returns
returns c = stands_first c.args.first (record { newest = c.args.first.pair; deadline = c.deadline.result }) refl c.deadline.ensures

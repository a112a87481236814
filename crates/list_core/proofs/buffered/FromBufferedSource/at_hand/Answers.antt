use Rattle.std.proofs.Common.{sym, subst}
use Rattle.list_core.specs.Device.{IsFront}
use Rattle.list_core.proofs.AtHand.{IsFront-at_hand}
use Rattle.list_core.proofs.buffered.FromBufferedSource.at_hand.Goals as goal

pub returns : goal.returns
returns g c = subst (IsFront _) (sym c.buffer.ensures) (IsFront-at_hand g.R.Read.remaining c.args.self.now.source.reader)

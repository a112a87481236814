use Rattle.list_core.proofs.AtHand.{ConsumesSome-at_hand}
use Rattle.list_core.proofs.buffered.FromBufferedSource.take_at_hand.Goals as goal

pub returns-clause-taken : goal.returns-clause-taken
returns-clause-taken g c e = ConsumesSome-at_hand g.R.Read.remaining c.args.self.now.source.reader _ c.args.count (rw c.buffer.ensures at c.if-buffer-count.false) c.consume.ensures.bytes

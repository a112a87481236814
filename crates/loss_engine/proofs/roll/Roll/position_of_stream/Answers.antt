use Rattle.std.proofs.Common.{List, subst}
use Rattle.loss_engine.specs.declared.entry.Entry.{Entry}
use Rattle.loss_engine.specs.KeySaid.{stream_said}
use Rattle.loss_engine.specs.computed.Entries.{IsFirstAt}
use Rattle.loss_engine.specs.computed.Tracking.{Tracked}
use Rattle.loss_engine.specs.computed.Roll.{HasKeyAt}
use Rattle.loss_engine.proofs.RollLemmas.{first_at}
use Rattle.loss_engine.proofs.roll.Roll.position_of_stream.Goals as goal

pub returns-then-has_stream_at : goal.returns-then-has_stream_at
returns-then-has_stream_at g c =
    let key = stream_said c.args.key in
    let at = c.self.inside.last in
    let there = subst (λ (l : List (Entry g.row.A.Denot)). HasKeyAt l key at) c.as_slice.ensures.value (c.has_stream_at.ensures c.if-has_stream_at.true) in
    subst (λ (l : List Tracked). IsFirstAt l key at) c.self.view_is (first_at c.self.inside.entries.items c.self.inside.positions c.self.invariant key at there)

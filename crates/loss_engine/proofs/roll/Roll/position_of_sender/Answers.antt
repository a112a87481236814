use Rattle.std.proofs.Common.{List, subst}
use Rattle.loss_engine.specs.declared.entry.Entry.{Entry}
use Rattle.loss_engine.specs.KeySaid.{sender_said}
use Rattle.loss_engine.specs.computed.Entries.{IsFirstAt}
use Rattle.loss_engine.specs.computed.Tracking.{Tracked}
use Rattle.loss_engine.specs.computed.Roll.{HasKeyAt}
use Rattle.loss_engine.proofs.RollLemmas.{first_at}
use Rattle.loss_engine.proofs.roll.Roll.position_of_sender.Goals as goal

pub returns-then-has_sender_guessed : goal.returns-then-has_sender_guessed
returns-then-has_sender_guessed g c =
    let key = sender_said c.args.key in
    let at = c.guess_of-guess.result in
    let there = subst (λ (l : List (Entry g.row.A.Denot)). HasKeyAt l key at) c.as_slice.ensures.value (c.has_sender_guessed.ensures c.if-has_sender_guessed.true) in
    subst (λ (l : List Tracked). IsFirstAt l key at) c.self.view_is (first_at c.self.inside.entries.items c.self.inside.positions c.self.invariant key at there)

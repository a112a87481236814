use Rattle.std.proofs.Common.{[], ◌∷◌, ◌++◌, ◌*◌, ap, sym, ◌∙◌}
use Rattle.loss_engine.specs.KeySaid.{sender_said}
use Rattle.loss_engine.specs.computed.Tracking.{frames, more_frames}
use Rattle.loss_engine.proofs.Tracks.{with_none}
use Rattle.loss_engine.proofs.losses.Losses.take_frame.Goals as goal

pub returns-in-Some-clause-kept : goal.returns-in-Some-clause-kept
returns-in-Some-clause-kept g c = ap (λ xs. record { moment = c.args.self.now.greatest; is_back = c.args.self.now.is_back; tracked = xs }) (c.take_frame-told.ensures.kept (sender_said c.args.key) _ c.in-Some.ensures)

pub returns-in_ok-put-in-None-clause-told : goal.returns-in_ok-put-in-None-clause-told
returns-in_ok-put-in-None-clause-told g c = rw c.in-None.ensures (c.first_told.ensures (record { pair = c.args.pair; moment = c.args.self.now.greatest; lifetime = 1000 * c.from.result }))

pub returns-in_ok-put-in-None-clause-kept : goal.returns-in_ok-put-in-None-clause-kept
returns-in_ok-put-in-None-clause-kept g c =
    c.in_ok-put-in-None.ensures.put
    ∙ ap (λ first. record { moment = c.args.self.now.greatest; is_back = c.args.self.now.is_back; tracked = c.args.self.now.roll ++ record { key = sender_said c.args.key; progress = frames first } ∷ [] }) c.of_first.ensures.first
    ∙ ap (λ xs. record { moment = c.args.self.now.greatest; is_back = c.args.self.now.is_back; tracked = xs }) (sym (with_none c.args.self.now.roll (sender_said c.args.key) _ (more_frames _) c.in-None.ensures))

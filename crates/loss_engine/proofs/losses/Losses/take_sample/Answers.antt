use Rattle.std.proofs.Common.{◌≡◌, List, ap, subst, sym}
use Rattle.std.specs.Result.{OnOk}
use Rattle.loss_engine.specs.KeySaid.{stream_said}
use Rattle.loss_engine.specs.Sights.{period_for}
use Rattle.loss_engine.specs.computed.Held.{kept_by, periods_by}
use Rattle.loss_engine.specs.computed.Tracking.{Tracked, first_samples, more_samples}
use Rattle.loss_engine.proofs.Kept.{counts_known}
use Rattle.loss_engine.proofs.Tracks.{with_none}
use Rattle.loss_engine.proofs.losses.Losses.take_sample.Goals as goal

pub returns-in-Some-clause-kept : goal.returns-in-Some-clause-kept
returns-in-Some-clause-kept g c = ap (λ xs. record { moment = c.args.self.now.greatest; is_back = c.args.self.now.is_back; tracked = xs }) (c.take_sample-answer.ensures.kept (stream_said c.args.key) _ c.in-Some.ensures)

pub returns-in-None-clause-kept : goal.returns-in-None-clause-kept
returns-in-None-clause-kept g c =
    let moment = c.args.self.now.greatest in
    subst (λ (xs : List Tracked). OnOk c.take_first.result (kept_by c.take_first.new.self ≡ record { moment = moment; is_back = c.args.self.now.is_back; tracked = xs }))
    (sym (with_none c.args.self.now.roll (stream_said c.args.key) (first_samples (period_for (periods_by c.args.self.now) (stream_said c.args.key)) (record { count = c.args.count; moment = moment }) c.args.synch) (more_samples (record { count = c.args.count; moment = moment }) c.args.synch) c.in-None.ensures))
    c.take_first.ensures.put

pub returns-in-Some-clause-told : goal.returns-in-Some-clause-told
returns-in-Some-clause-told g c =
    let key = stream_said c.args.key in
    counts_known (period_for (periods_by c.args.self.now) key) _ _ c.take_sample-answer.result (c.take_sample-answer.ensures.known key c.in-Some.ensures) (c.take_sample-answer.ensures.told key c.in-Some.ensures)

use Rattle.loss_engine.proofs.Kept.{total_frames}
use Rattle.loss_engine.proofs.entry.Entry.total.Goals as goal

pub returns-in-Frames : goal.returns-in-Frames
returns-in-Frames g c = λ form.
    rw c.in-Frames.is (total_frames form c.args.end _ _ c.over_at-since.result c.in-Frames.tally c.with_end.result c.key-key.ensures c.over_at-since.ensures c.with_end.ensures)

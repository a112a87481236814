use Rattle.std.proofs.Common.{subst}
use Rattle.frame_core.specs.FrameViews.{frame_of}
use Rattle.frame_core.specs.declared.frame.Frame.{Frame}
use Rattle.frame_engines.specs.computed.KeptLine.{KeepsLine}
use Rattle.repeat_core.proofs.BesideFrames.{same_frame}
use Rattle.frame_engines.proofs.KeptLines.{kept_unnumbered}
use Rattle.frame_engines.proofs.engines.show.keep_line.Goals as goal

pub keep-requires : goal.keep-requires
keep-requires g c f is =
    let kept = c.in-Some-kept_line.kept in
    kept_unnumbered kept.in_object kept.whole kept.text.items kept.live kept.sq_num f
    (subst (λ (x : Frame (Unit {0})). KeepsLine kept.in_object kept.whole kept.text.items kept.live kept.sq_num x) (same_frame _ (frame_of c.frame-frame.result) f c.frame-frame.ensures.exact is)
    c.in-Some-kept_line.ensures)

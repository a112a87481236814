use Rattle.std.proofs.Common.{Bool, false, true, subst}
use Rattle.frame_core.specs.FrameViews.{frame_of}
use Rattle.frame_core.specs.computed.FrameReading.{frame_at}
use Rattle.frame_core.specs.declared.frame.Frame.{Frame}
use Rattle.object_core.proofs.Appending.{exactly}
use Rattle.repeat_core.specs.Numbered.{unnumbered}
use Rattle.frame_engines.specs.ShowObject.{IsAnswerObject}
use Rattle.frame_engines.specs.computed.KeptLine.{KeepsLine}
use Rattle.repeat_core.proofs.BesideFrames.{same_frame}
use Rattle.frame_engines.proofs.KeptLines.{kept_numbered, whole_answer}
use Rattle.frame_engines.proofs.engines.show.put_octets_object.Goals as goal

pub put_kept_object-requires-clause-kept : goal.put_kept_object-requires-clause-kept
put_kept_object-requires-clause-kept g c =
    let kept = c.in-Some-beside.kept.now in
    let repeats = c.in-Some.ensures.repeats in
    let keeps : KeepsLine {A = Unit {0}} kept.in_object kept.whole kept.text.items kept.live kept.sq_num (unnumbered repeats.frame) = rw c.in-Some-beside.is at repeats.beside in
    let in_object : KeepsLine {A = Unit {0}} true kept.whole kept.text.items kept.live kept.sq_num (unnumbered repeats.frame) =
    subst (λ (b : Bool). KeepsLine {A = Unit {0}} b kept.whole kept.text.items kept.live kept.sq_num (unnumbered repeats.frame)) c.if-kept.true keeps in
    let in_part : KeepsLine {A = Unit {0}} true false kept.text.items kept.live kept.sq_num (unnumbered repeats.frame) =
    subst (λ (b : Bool). KeepsLine {A = Unit {0}} true b kept.text.items kept.live kept.sq_num (unnumbered repeats.frame)) c.if-kept-2.false in_object in
    subst (λ (f : Frame (Unit {0})). KeepsLine true false kept.text.items kept.live kept.sq_num f) (same_frame _ repeats.frame (frame_of c.frame-frame.result) repeats.read c.frame-frame.ensures.exact)
    (kept_numbered true false kept.text.items kept.live kept.sq_num repeats.frame in_part)

pub returns-then-kept-2 : goal.returns-then-kept-2
returns-then-kept-2 g c =
    let a = c.args in
    let kept = c.in-Some-beside.kept.now in
    let again = c.in-Some.again in
    let repeats = c.in-Some.ensures.repeats in
    let keeps : KeepsLine {A = Unit {0}} kept.in_object kept.whole kept.text.items kept.live kept.sq_num (unnumbered repeats.frame) = rw c.in-Some-beside.is at repeats.beside in
    let is = whole_answer a.counted a.number a.moment a.octets.now repeats.frame repeats.read again.live again.sq_num repeats.goose
    kept.in_object kept.whole kept.text.items kept.live kept.sq_num keeps c.if-kept.true c.if-kept-2.true in
    exactly c.put_whole_object.result _ _ _ (IsAnswerObject a.counted a.number a.moment (frame_at a.octets.now)) is c.put_whole_object.ensures

pub returns-in-Goose : goal.returns-in-Goose
returns-in-Goose g c = rw c.frame-frame.ensures.exact c.put_kept_object.ensures

pub returns-in-Ok : goal.returns-in-Ok
returns-in-Ok g c =
    let read = rw c.in-Ok.is at c.view_frame-viewed.ensures.exact in
    rw read c.put_frame_object.ensures

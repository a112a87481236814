use Rattle.frame_core.specs.computed.FrameReading.{frame_at}
use Rattle.object_core.proofs.Appending.{exactly}
use Rattle.repeat_core.specs.Numbered.{unnumbered}
use Rattle.frame_engines.specs.ShowObject.{IsAnswerObject}
use Rattle.frame_engines.specs.computed.KeptLine.{KeepsLine}
use Rattle.frame_engines.proofs.KeptLines.{whole_answer}
use Rattle.frame_engines.proofs.engines.show.put_just_kept.Goals as goal

pub returns-then-kept-2 : goal.returns-then-kept-2
returns-then-kept-2 g c =
    let a = c.args in
    let kept = c.in-Some-beside.kept.now in
    let again = c.in-Some.again in
    let repeats = c.in-Some.ensures.repeats in
    let keeps : KeepsLine {A = Unit {0}} kept.in_object kept.whole kept.text.items kept.live kept.sq_num (unnumbered repeats.frame) = rw c.in-Some-beside.is at repeats.beside in
    let is = whole_answer a.counted a.number a.moment a.octets.now repeats.frame repeats.read again.live again.sq_num repeats.goose
    kept.in_object kept.whole kept.text.items kept.live kept.sq_num keeps c.if-kept.true c.if-kept-2.true in
    exactly c.put_whole_object.result _ _ _ (IsAnswerObject a.counted a.number a.moment (frame_at a.octets.now)) is c.put_whole_object.ensures

pub returns-in-Ok : goal.returns-in-Ok
returns-in-Ok g c =
    let read = rw c.in-Ok.is at c.view_frame-viewed.ensures.exact in
    rw read c.put_frame_object.ensures

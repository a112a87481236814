use Rattle.std.proofs.Common.{refl}
use Rattle.std.specs.Prelude.{codes}
use Rattle.pdu_core.specs.Views.{pdu_of}
use Rattle.frame_core.specs.FrameViews.{frame_of}
use Rattle.text_core.proofs.PieceLemmas.{then_text}
use Rattle.object_core.specs.EventObject.{event_fields}
use Rattle.object_core.specs.MemberObject.{AreMembers}
use Rattle.object_core.specs.Objects.{opened}
use Rattle.object_core.proofs.Appending.{some_then, then_some}
use Rattle.frame_engines.specs.FrameObject.{IsFrameObject}
use Rattle.frame_engines.specs.computed.KeptLine.{with_numbers}
use Rattle.frame_engines.proofs.KeptLines.{IsTail, kept_object}
use Rattle.frame_engines.proofs.texts.kept.put_kept_object.Goals as goal

pub returns : goal.returns
returns g c =
    let a = c.args in
    let f = frame_of {A = Unit {0}} a.frame.now in
    let p = pdu_of {A = Unit {0}} a.goose.now in
    let kept = a.kept.now in
    then_some c.put_frame_object_end.result a.out.now.items c.put_with_numbers.new.out.items c.put_frame_object_end.new.out.items _ (IsTail f p) (IsFrameObject a.counted a.number a.moment f)
    (then_text a.out.now.items (opened (event_fields a.counted a.number a.moment (codes "goose"))) (with_numbers kept.text.items kept.live kept.sq_num p.live p.sq_num) _
    c.put_event_head.new.out.items c.put_with_numbers.new.out.items c.in_ok-put_event_head.ensures c.in_ok-put_with_numbers.ensures refl)
    (some_then c.put_frame_object_end.result c.put_with_numbers.new.out.items c.put_members_object.new.out.items c.put_frame_object_end.new.out.items _ (AreMembers p.members) (IsTail f p)
    c.in_ok-put_members_object.ensures c.put_frame_object_end.ensures (λ members are. (members, are, refl)))
    (kept_object a.counted a.number a.moment f p c.requires.goose kept.text.items kept.live kept.sq_num c.requires.kept)

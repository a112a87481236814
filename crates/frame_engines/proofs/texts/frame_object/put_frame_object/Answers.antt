use Rattle.std.proofs.Common.{List, ℕ, ◌++◌, ap, refl}
use Rattle.std.specs.Prelude.{codes}
use Rattle.frame_core.specs.FrameViews.{frame_of}
use Rattle.text_core.proofs.PieceLemmas.{then_text}
use Rattle.object_core.specs.EventObject.{event_fields}
use Rattle.object_core.specs.Objects.{opened}
use Rattle.object_core.proofs.Appending.{some_then, then_some}
use Rattle.frame_engines.specs.FrameObject.{IsFrameObject, apdu_kind, envelope_fields, trailer_value}
use Rattle.frame_engines.specs.computed.ObjectFields.{AreApduTexts, next_fields}
use Rattle.frame_engines.proofs.FrameObjects.{frame_parts, IsRest}
use Rattle.frame_engines.proofs.texts.frame_object.put_frame_object.Goals as goal

pub returns : goal.returns
returns g c =
    let a = c.args in
    let f = frame_of {A = Unit {0}} a.frame.now in
    let head = opened (event_fields a.counted a.number a.moment (apdu_kind f.apdu)) in
    then_some c.put_frame_object_end.result a.out.now.items c.put_envelope_fields.new.out.items c.put_frame_object_end.new.out.items (head ++ next_fields (envelope_fields f)) (IsRest f) (IsFrameObject a.counted a.number a.moment f)
    (then_text a.out.now.items head (next_fields (envelope_fields f)) _ c.put_frame_object_head.new.out.items c.put_envelope_fields.new.out.items c.in_ok-put_frame_object_head.ensures c.in_ok-put_envelope_fields.ensures refl)
    (some_then c.put_frame_object_end.result c.put_envelope_fields.new.out.items c.put_apdu_fields.new.out.items c.put_frame_object_end.new.out.items _ (AreApduTexts f.apdu) (IsRest f) c.in_ok-put_apdu_fields.ensures c.put_frame_object_end.ensures
    (λ x is. (is.0, is.1, ap (λ (l : List ℕ). l ++ (codes ",\"trailer\":" ++ trailer_value f.trailer ++ codes "}\n")) is.2)))
    (frame_parts a.counted a.number a.moment f)

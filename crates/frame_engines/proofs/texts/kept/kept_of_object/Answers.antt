use Rattle.std.proofs.Common.{◌≡◌, ℕ, List, ◌++◌, length, ap, append_assoc, ◌∙◌}
use Rattle.pdu_core.specs.Views.{pdu_of}
use Rattle.frame_core.specs.FrameViews.{frame_of}
use Rattle.frame_engines.specs.computed.KeptPieces.{object_back, object_front, object_middle, object_tail}
use Rattle.frame_engines.proofs.KeptLines.{object_kept}
use Rattle.frame_engines.proofs.texts.kept.kept_of_object.Goals as goal

pub returns : goal.returns
returns g c =
    let f = frame_of {A = Unit {0}} c.args.frame.now in
    let p = pdu_of {A = Unit {0}} c.args.goose.now in
    let front : c.put_object_front.new.out.items ≡ object_front f p = c.in_ok-put_object_front.ensures ∙ ap (λ (l : List ℕ). l ++ object_front f p) c.new-text.ensures.items in
    let middle : c.put_object_middle.new.out.items ≡ object_front f p ++ object_middle p = c.in_ok-put_object_middle.ensures ∙ ap (λ (l : List ℕ). l ++ object_middle p) front in
    let whole = c.in_ok-whole.whole in
    let back : c.put_object_back.new.out.items ≡ (object_front f p ++ object_middle p) ++ object_back p = c.in_ok-put_object_back.ensures ∙ ap (λ (l : List ℕ). l ++ object_back p) middle in
    object_kept whole f p c.requires c.in_ok-whole.ensures.settled c.put_object_tail.new.out.items c.len-live.result c.len-sq_num.result
    (c.in_ok-whole.ensures.text ∙ ap (λ (l : List ℕ). l ++ object_tail whole f p) back ∙ append_assoc (object_front f p ++ object_middle p) (object_back p) (object_tail whole f p))
    (c.len-live.ensures ∙ c.put_object_front.new.out.ok.0 ∙ ap length front)
    (c.len-sq_num.ensures ∙ c.put_object_middle.new.out.ok.0 ∙ ap length middle)

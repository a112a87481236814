use Rattle.std.proofs.Common.{◌≡◌, ℕ, List, ◌++◌, length, ap, ◌∙◌}
use Rattle.pdu_core.specs.Views.{pdu_of}
use Rattle.frame_core.specs.FrameViews.{frame_of}
use Rattle.frame_engines.specs.computed.KeptPieces.{line_back, line_front, line_middle}
use Rattle.frame_engines.proofs.KeptLines.{line_kept}
use Rattle.frame_engines.proofs.texts.kept.kept_of_line.Goals as goal

pub returns : goal.returns
returns g c =
    let f = frame_of {A = Unit {0}} c.args.frame.now in
    let p = pdu_of {A = Unit {0}} c.args.goose.now in
    let front : c.put_line_front.new.out.items ≡ line_front f p = c.in_ok-put_line_front.ensures ∙ ap (λ (l : List ℕ). l ++ line_front f p) c.new-text.ensures.items in
    let middle : c.put_line_middle.new.out.items ≡ line_front f p ++ line_middle p = c.in_ok-put_line_middle.ensures ∙ ap (λ (l : List ℕ). l ++ line_middle p) front in
    line_kept f p c.requires c.put_line_back.new.out.items c.len-live.result c.len-sq_num.result
    (c.in_ok-put_line_back.ensures ∙ ap (λ (l : List ℕ). l ++ line_back f p) middle)
    (c.len-live.ensures ∙ c.put_line_front.new.out.ok.0 ∙ ap length front)
    (c.len-sq_num.ensures ∙ c.put_line_middle.new.out.ok.0 ∙ ap length middle)

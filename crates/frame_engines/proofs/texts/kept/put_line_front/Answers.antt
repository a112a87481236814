use Rattle.std.proofs.Common.{List, ℕ, [], ◌∷◌, ◌++◌, refl, ap, ◌∙◌}
use Rattle.std.specs.Prelude.{codes}
use Rattle.frame_core.specs.FrameViews.{frame_of}
use Rattle.text_core.specs.Pieces.{quoted}
use Rattle.text_core.proofs.PieceLemmas.{done, more, row}
use Rattle.frame_engines.specs.FrameText.{envelope_text}
use Rattle.frame_engines.proofs.texts.kept.put_line_front.Goals as goal

pub returns : goal.returns
returns g c =
    let f = frame_of {A = Unit {0}} c.args.frame.now in
    let envelope = c.in_ok-append_to.ensures ∙ ap (λ (l : List ℕ). c.extend_from_slice.new.self.items ++ l) c.prepend_envelope_text.ensures.text in
    row c.args.out.now.items c.extend_from_slice-2.new.self.items (codes " goose " ∷ envelope_text f ∷ (codes " ref=" ++ quoted c.args.goose.now.gocb_ref.now) ∷ codes " live=" ∷ []) (
    more c.in_ok-extend_from_slice.ensures.items (
    more envelope (
    more c.in_ok-put_text.ensures (
    more c.in_ok-extend_from_slice-2.ensures.items (
    done refl)))))

use Rattle.std.proofs.Common.{ℕ, List, [], ◌∷◌, ◌++◌, ap, refl, sym, ◌∙◌}
use Rattle.std.proofs.lemmas.List.{append-nil}
use Rattle.std.specs.Prelude.{codes}
use Rattle.std.specs.Fmt.{decimal}
use Rattle.frame_core.specs.FrameViews.{frame_of}
use Rattle.frame_engines.specs.FrameText.{apdu_text, apdu_word, envelope_text, trailer_text}
use Rattle.text_core.proofs.Fronts.{row_then}
use Rattle.text_core.proofs.PieceLemmas.{more, several, done}
use Rattle.frame_engines.proofs.texts.frame.put_frame_line.Goals as goal

pub returns : goal.returns
returns g c =
    let frame = frame_of {A = Unit {0}} c.args.frame.now in
    let head = decimal c.args.number ∷ apdu_word frame.apdu ∷ envelope_text frame ∷ [] in
    row_then c.put_frame_end.result _ _ _ (head ++ apdu_text frame.apdu ∷ []) ((codes " trailer=" ++ trailer_text frame.trailer) ∷ codes "\n" ∷ []) (
    several head (c.in_ok-put_frame_head.ensures ∙ ap (λ (l : List ℕ). c.args.out.now.items ++ (decimal c.args.number ++ (apdu_word frame.apdu ++ l))) (sym (append-nil (envelope_text frame)))) (
    more c.in_ok-put_apdu_text.ensures (
    done refl))) c.put_frame_end.ensures

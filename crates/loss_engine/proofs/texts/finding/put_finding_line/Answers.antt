use Rattle.std.proofs.Common.{[], ◌∷◌, ◌++◌, refl, sym}
use Rattle.std.specs.Prelude.{codes}
use Rattle.std.specs.Fmt.{decimal}
use Rattle.text_core.proofs.Fronts.{appended, row_then, then_appended}
use Rattle.text_core.proofs.PieceLemmas.{concat-append, done, more}
use Rattle.loss_engine.specs.KeySaid.{key_said}
use Rattle.loss_engine.specs.LossLine.{finding_numbers, finding_word, key_text}
use Rattle.loss_engine.proofs.texts.finding.put_finding_line.Goals as goal

pub returns : goal.returns
returns g c =
    let numbers = finding_numbers c.args.finding in
    let word = rw c.word_of.ensures at c.in_ok-extend_from_slice-2.ensures.items in
    row_then c.extend_from_slice-3.result _ _ _ (decimal c.args.number ∷ codes " " ∷ finding_word c.args.finding ∷ key_text (key_said c.args.key.now) ∷ []) (numbers ++ codes "\n" ∷ [])
    (more c.in_ok-put_decimal.ensures (more c.in_ok-extend_from_slice.ensures.items (more word (more c.in_ok-put_key.ensures (done refl)))))
    (then_appended _ _ _ _ _ (codes "\n") _ c.in_ok-put_finding_numbers.ensures (appended _ _ _ (codes "\n") (codes "\n") c.extend_from_slice-3.ensures.items refl) (sym (concat-append numbers (codes "\n" ∷ []))))

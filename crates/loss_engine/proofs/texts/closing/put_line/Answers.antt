use Rattle.std.proofs.Common.{List, ℕ, [], ◌∷◌, ◌++◌, ap, refl, sym, ◌∙◌}
use Rattle.std.specs.Prelude.{codes}
use Rattle.text_core.proofs.Fronts.{appended, row_then, then_appended}
use Rattle.text_core.proofs.PieceLemmas.{concat-append, done, more}
use Rattle.loss_engine.specs.KeySaid.{key_said}
use Rattle.loss_engine.specs.LossLine.{key_text}
use Rattle.loss_engine.proofs.texts.closing.put_line.Goals as goal

pub returns : goal.returns
returns g c = λ parts e.
    row_then c.extend_from_slice-2.result _ _ _ (c.args.words.now ∷ key_text (key_said c.args.key.now) ∷ []) (parts ++ codes "\n" ∷ [])
    (more c.in_ok-extend_from_slice.ensures.items (more c.in_ok-put_key.ensures (done refl)))
    (then_appended _ _ _ _ _ (codes "\n") _ c.in_ok-put_numbers.ensures (appended _ _ _ (codes "\n") (codes "\n") c.extend_from_slice-2.ensures.items refl)
    (ap (λ (l : List ℕ). l ++ codes "\n") e ∙ sym (concat-append parts (codes "\n" ∷ []))))

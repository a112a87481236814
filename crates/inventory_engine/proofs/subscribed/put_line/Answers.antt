use Rattle.std.proofs.Common.{ℕ, List, [], ◌∷◌, ◌++◌, ◌∙◌, ap, refl}
use Rattle.std.specs.Prelude.{codes}
use Rattle.std.specs.Fmt.{decimal}
use Rattle.text_core.proofs.Fronts.{appended, row_then}
use Rattle.text_core.proofs.PieceLemmas.{done, more}
use Rattle.inventory_engine.proofs.subscribed.put_line.Goals as goal

pub returns : goal.returns
returns g c =
    let text = c.in_ok-extend_from_slice-3.ensures.items ∙ ap (λ (l : List ℕ). c.extend_from_slice-2.new.self.items ++ l) c.as_slice.ensures in
    row_then c.extend_from_slice-4.result _ _ _ (codes "subscribed " ∷ decimal c.args.position ∷ codes " " ∷ c.args.block.now.text ∷ []) (codes "\n" ∷ [])
    (more c.in_ok-extend_from_slice.ensures.items (more c.in_ok-put_decimal.ensures (more c.in_ok-extend_from_slice-2.ensures.items (more text (done refl)))))
    (appended _ _ _ (codes "\n") (codes "\n") c.extend_from_slice-4.ensures.items refl)

use Rattle.std.proofs.Common.{[], ◌∷◌, ◌++◌, refl}
use Rattle.std.specs.Prelude.{codes}
use Rattle.std.specs.Fmt.{decimal}
use Rattle.text_core.proofs.Fronts.{appended}
use Rattle.text_core.proofs.PieceLemmas.{done, more}
use Rattle.loss_engine.proofs.Rows.{row_last}
use Rattle.loss_engine.proofs.texts.time_back.put_back_line.Goals as goal

pub returns : goal.returns
returns g c =
    row_last c.extend_from_slice.result _ _ _ (decimal c.args.number ∷ (codes " time-back by=" ++ decimal c.args.by) ∷ []) (codes "\n")
    (more c.in_ok-put_decimal.ensures (more c.in_ok-put_number.ensures (done refl))) (appended _ _ _ (codes "\n") (codes "\n") c.extend_from_slice.ensures.items refl)

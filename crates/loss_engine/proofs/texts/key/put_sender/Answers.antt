use Rattle.std.proofs.Common.{[], ◌∷◌, ◌++◌, refl}
use Rattle.std.specs.Prelude.{codes}
use Rattle.text_core.specs.Pieces.{boolean_text, four_digits, quoted}
use Rattle.text_core.proofs.PieceLemmas.{done, more}
use Rattle.loss_engine.proofs.Rows.{row_last}
use Rattle.loss_engine.proofs.texts.key.put_sender.Goals as goal

pub returns : goal.returns
returns g c =
    let s = c.args.sender.now in
    row_last c.put_boolean.result _ _ _ ((codes " appid=" ++ four_digits s.app_id) ∷ (codes " ref=" ++ quoted s.reference.now) ∷ codes " sim=" ∷ []) (boolean_text s.simulation)
    (more c.in_ok-put_app_id.ensures (more c.in_ok-put_text.ensures (more c.in_ok-extend_from_slice.ensures.items (done refl)))) c.put_boolean.ensures

use Rattle.std.proofs.Common.{[], ◌∷◌, ◌++◌, refl}
use Rattle.std.specs.Prelude.{codes}
use Rattle.hex.specs.Hex.{encode_lower}
use Rattle.text_core.specs.Pieces.{four_digits, quoted}
use Rattle.text_core.proofs.PieceLemmas.{done, more}
use Rattle.loss_engine.proofs.Rows.{row_last}
use Rattle.loss_engine.proofs.texts.key.put_stream.Goals as goal

pub returns : goal.returns
returns g c =
    let s = c.args.stream.now in
    row_last c.put_text.result _ _ _ ((codes " appid=" ++ four_digits s.app_id) ∷ (codes " source=" ++ encode_lower s.source) ∷ []) (codes " id=" ++ quoted s.id.now)
    (more c.in_ok-put_app_id.ensures (more c.in_ok-put_octets.ensures (done refl))) c.put_text.ensures

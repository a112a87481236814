use Rattle.std.proofs.Common.{[], ◌∷◌, refl}
use Rattle.std.specs.Prelude.{codes}
use Rattle.text_core.specs.Pieces.{boolean_text, quoted, two_octets}
use Rattle.text_core.proofs.PieceLemmas.{done, more}
use Rattle.object_core.specs.Objects.{octets_value}
use Rattle.object_core.specs.Onward.{next_field}
use Rattle.loss_engine.proofs.Rows.{row_last}
use Rattle.loss_engine.proofs.texts.key.put_sender_fields.Goals as goal

pub returns : goal.returns
returns g c =
    let s = c.args.sender.now in
    row_last c.put_field_boolean.result _ _ _ (next_field (codes "appid", octets_value (two_octets s.app_id)) ∷ next_field (codes "gocbRef", quoted s.reference.now) ∷ []) (next_field (codes "simulation", boolean_text s.simulation))
    (more c.in_ok-put_field_octets.ensures (more c.in_ok-put_text.ensures (done refl))) c.put_field_boolean.ensures

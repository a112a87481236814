use Rattle.std.proofs.Common.{[], ◌∷◌, refl}
use Rattle.std.specs.Prelude.{codes}
use Rattle.text_core.specs.Pieces.{quoted, two_octets}
use Rattle.text_core.proofs.PieceLemmas.{done, more}
use Rattle.object_core.specs.Objects.{octets_value}
use Rattle.object_core.specs.Onward.{next_field}
use Rattle.loss_engine.proofs.Rows.{row_last}
use Rattle.loss_engine.proofs.texts.key.put_stream_fields.Goals as goal

pub returns : goal.returns
returns g c =
    let s = c.args.stream.now in
    row_last c.put_text.result _ _ _ (next_field (codes "appid", octets_value (two_octets s.app_id)) ∷ next_field (codes "source", octets_value s.source) ∷ []) (next_field (codes "svID", quoted s.id.now))
    (more c.in_ok-put_field_octets.ensures (more c.in_ok-put_field_octets-2.ensures (done refl))) c.put_text.ensures

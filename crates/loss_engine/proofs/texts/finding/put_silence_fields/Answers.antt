use Rattle.std.proofs.Common.{[], ◌∷◌, refl}
use Rattle.std.specs.Prelude.{codes}
use Rattle.std.specs.Fmt.{decimal}
use Rattle.text_core.proofs.Fronts.{row_then}
use Rattle.text_core.proofs.PieceLemmas.{done, more}
use Rattle.object_core.specs.Objects.{date_value}
use Rattle.object_core.specs.Onward.{next_field}
use Rattle.loss_engine.proofs.texts.finding.put_silence_fields.Goals as goal

pub returns : goal.returns
returns g c =
    let args = c.args in
    row_then c.put_numbers.result _ _ _ (next_field (codes "since", decimal args.since) ∷ next_field (codes "sinceTime", date_value args.since) ∷ []) (next_field (codes "for", decimal args.lasted) ∷ [])
    (more c.in_ok-put_number.ensures (more c.in_ok-put_field_date.ensures (done refl))) c.put_numbers.ensures

use Rattle.std.proofs.Common.{[], ◌∷◌, ◌++◌, List, ℕ, map, refl, sym, take, append-nil}
use Rattle.std.specs.Prelude.{codes}
use Rattle.std.specs.Fmt.{decimal}
use Rattle.text_core.proofs.Fronts.{row_then, then_appended}
use Rattle.text_core.proofs.PieceLemmas.{done, more, several}
use Rattle.object_core.specs.Onward.{next_field}
use Rattle.inventory_engine.specs.SightingObject.{name_fields}
use Rattle.inventory_engine.specs.computed.ShownFields.{configuration_shown}
use Rattle.inventory_engine.proofs.sighting.put_name_fields.Goals as goal

pub returns : goal.returns
returns g c =
    let block = c.args.block.now in
    let names : List (List ℕ) = map next_field (take 4 (name_fields (configuration_shown block))) in
    let entries = next_field (codes "entries", decimal block.entries) in
    row_then c.put_decimal.result _ _ _ (names ++ next_field (codes "confRev", decimal block.conf_rev) ∷ []) (entries ∷ [])
    (several names c.in_ok-put_names.ensures (more c.in_ok-put_number.ensures (done refl)))
    (then_appended c.put_decimal.result _ _ _ (codes ",\"entries\":") (decimal block.entries) _ c.in_ok-extend_from_slice.ensures.items c.put_decimal.ensures (sym (append-nil entries)))

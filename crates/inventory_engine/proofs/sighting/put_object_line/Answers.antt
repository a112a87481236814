use Rattle.std.proofs.Common.{List, [], ◌∷◌, ◌++◌, refl}
use Rattle.std.specs.Prelude.{codes}
use Rattle.std.specs.Fmt.{decimal}
use Rattle.std.specs.List.{flat_map}
use Rattle.text_core.proofs.Fronts.{appended}
use Rattle.text_core.proofs.PieceLemmas.{then_text}
use Rattle.object_core.specs.EventObject.{counted_name, event_fields}
use Rattle.object_core.specs.Objects.{Field, date_value, in_quotes, opened}
use Rattle.object_core.specs.Onward.{onward}
use Rattle.object_core.proofs.ObjectLines.{closed}
use Rattle.inventory_engine.specs.computed.PieceText.{piece_text}
use Rattle.inventory_engine.specs.computed.ShownFields.{shown_fields}
use Rattle.inventory_engine.proofs.sighting.put_object_line.Goals as goal

pub returns : goal.returns
returns g c =
    let args = c.args in
    let number : Field = (counted_name args.counted, decimal args.number) in
    let others : List Field = (codes "microseconds", decimal args.moment) ∷ (codes "time", date_value args.moment) ∷ (codes "kind", in_quotes args.kind.now) ∷ [] in
    let fields = shown_fields args.shown (flat_map piece_text args.pieces.now) in
    let head = opened (event_fields args.counted args.number args.moment args.kind.now) in
    closed c.extend_from_slice.result _ _ _ number others fields (then_text _ head (onward fields) (head ++ onward fields) _ _ c.in_ok-put_event_head.ensures c.in_ok-put_fields.ensures refl)
    (appended _ _ _ (codes "}\n") (codes "}\n") c.extend_from_slice.ensures.items refl)

use Rattle.std.proofs.Common.{refl}
use Rattle.std.specs.Prelude.{codes}
use Rattle.std.specs.List.{flat_map}
use Rattle.text_core.specs.Pieces.{quoted}
use Rattle.text_core.proofs.Fronts.{then_appended}
use Rattle.text_core.proofs.PieceLemmas.{then_text}
use Rattle.object_core.specs.Onward.{next_field}
use Rattle.inventory_engine.specs.computed.PieceText.{piece_text}
use Rattle.inventory_engine.proofs.sighting.put_block_fields.Goals as goal

pub returns : goal.returns
returns g c =
    let value = quoted (flat_map piece_text c.args.pieces.now) in
    let text = next_field (codes "text", value) in
    then_appended c.put_name_fields.result _ _ _ text _ _ (then_text _ (codes ",\"text\":") value text _ _ c.in_ok-extend_from_slice.ensures.items c.in_ok-put_quoted_pieces.ensures refl) c.put_name_fields.ensures refl

use Rattle.std.proofs.Common.{[], ◌∷◌, List, ℕ, Some, ap}
use Rattle.std.specs.List.{concat, flat_map}
use Rattle.inventory_engine.specs.Configuration.{Configuration}
use Rattle.inventory_engine.specs.SightingObject.{block_fields}
use Rattle.inventory_engine.specs.Sightings.{Sighting, block_parts, block_sighting, has_fields, named_parts}
use Rattle.inventory_engine.specs.computed.BlocksStep.{telling_at}
use Rattle.inventory_engine.specs.computed.PieceText.{piece_text}
use Rattle.inventory_engine.specs.computed.ShownFields.{configuration_shown}
use Rattle.inventory_engine.proofs.Appending.{by_test, by_test_not, appends_as}
use Rattle.inventory_engine.proofs.sighting.put_other_block.Goals as goal

-- a sighting of this text
seen : Configuration → List ℕ → List Sighting
seen b text = record { app_id = Some b.app_id; name = b.gocb_ref; text = text; fields = block_fields text b } ∷ []

pub returns-then-has_fields-clause-written : goal.returns-then-has_fields-clause-written
unfolding seen
returns-then-has_fields-clause-written g c =
    let b = configuration_shown c.args.block in
    let text = by_test (has_fields b) (concat (block_parts b)) (concat (named_parts b)) (flat_map piece_text c.block_pieces-pieces.result) c.has_fields.result c.has_fields.ensures c.if-has_fields.true c.block_pieces-pieces.ensures in
    appends_as c.put_sighting.result (telling_at c.args.heading) _ (block_sighting b ∷ []) c.args.known.now c.put_sighting.new.known c.args.line.now.items c.put_sighting.new.line.items
    (ap (seen b) text) c.put_sighting.ensures.written

pub returns-else-has_fields-clause-written : goal.returns-else-has_fields-clause-written
unfolding seen
returns-else-has_fields-clause-written g c =
    let b = configuration_shown c.args.block in
    let text = by_test_not (has_fields b) (concat (block_parts b)) (concat (named_parts b)) (flat_map piece_text c.named_pieces-pieces.result) c.has_fields.result c.has_fields.ensures c.if-has_fields.false c.named_pieces-pieces.ensures in
    appends_as c.put_sighting-else-has_fields.result (telling_at c.args.heading) _ (block_sighting b ∷ []) c.args.known.now c.put_sighting-else-has_fields.new.known c.args.line.now.items c.put_sighting-else-has_fields.new.line.items
    (ap (seen b) text) c.put_sighting-else-has_fields.ensures.written

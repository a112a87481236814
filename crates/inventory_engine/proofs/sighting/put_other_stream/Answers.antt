use Rattle.std.proofs.Common.{[], ◌∷◌, List, ℕ, None, ap}
use Rattle.inventory_engine.specs.SightingObject.{stream_fields}
use Rattle.inventory_engine.specs.Sightings.{Sighting, stream_by}
use Rattle.inventory_engine.specs.computed.BlocksStep.{telling_at}
use Rattle.inventory_engine.proofs.Appending.{appends_as}
use Rattle.inventory_engine.proofs.sighting.put_other_stream.Goals as goal

-- a sighting of this text
seen : ℕ → List ℕ → List ℕ → List Sighting
seen conf_rev sv_id text = record { app_id = None; name = sv_id; text = text; fields = stream_fields conf_rev sv_id } ∷ []

pub returns-clause-written : goal.returns-clause-written
unfolding seen
returns-clause-written g c =
    appends_as c.put_sighting.result (telling_at c.args.heading) _ (stream_by c.args.conf_rev c.args.sv_id.now ∷ []) c.args.known.now c.put_sighting.new.known c.args.line.now.items c.put_sighting.new.line.items
    (ap (seen c.args.conf_rev c.args.sv_id.now) c.stream_pieces-pieces.ensures) c.put_sighting.ensures.written

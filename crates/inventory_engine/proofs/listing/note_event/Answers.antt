use Rattle.inventory_engine.specs.BlocksText.{in_lines}
use Rattle.inventory_engine.specs.Sightings.{sightings_of}
use Rattle.inventory_engine.proofs.FirstBlocks.{notes}
use Rattle.inventory_engine.proofs.listing.note_event.Goals as goal

pub returns : goal.returns
returns g c =
    notes c.put_event.result (in_lines 0) (sightings_of c.args.kind.now) c.args.known.now c.put_event.new.known c.clear.new.self.items c.put_event.new.line.items c.args.found.now c.push_shown.new.found
    c.in_ok-push_shown.ensures c.put_event.ensures.written

use Rattle.inventory_engine.specs.computed.BlocksStep.{blocks_event}
use Rattle.inventory_engine.proofs.Newest.{blocks_of}
use Rattle.inventory_engine.proofs.engine.blocks_over.Goals as goal

pub returns-clause-text : goal.returns-clause-text
returns-clause-text g c = record { by = blocks_event; is = blocks_of; is_left = c.run_events.ensures.text }

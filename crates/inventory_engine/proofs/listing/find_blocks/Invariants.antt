use Rattle.inventory_engine.proofs.FirstBlocks.{HasFound}
use Rattle.inventory_engine.proofs.listing.find_blocks.Given as goal

abbrev pub invariant-answers : goal.invariant-answers
invariant-answers g l = HasFound g.I.ReadItems.answers l.initial.events l.events l.known l.found

abbrev pub decreases-answers : goal.decreases-answers
decreases-answers g l = g.I.ReadItems.most l.events

use Rattle.std.proofs.Common.{◌≡◌, [], Ok, None, rules}
use Rattle.engine_core.specs.Input.{reader_of}
use Rattle.inventory_engine.proofs.FirstBlocks.{finds, found_more, found_none}
use Rattle.inventory_engine.proofs.listing.find_blocks.Goals as goal

pub answers-init : goal.answers-init
answers-init g c =
    let listed : c.new.result.items ≡ [] = search rules in
    let blocks : c.new-2.result.items ≡ [] = search rules in
    found_none g.I.ReadItems.answers c.args.events.now c.new-known.result (record { listed = c.new.result; blocks = c.new-2.result }) c.new-known.ensures.none c.new-known.ensures.compact listed blocks

pub answers-preserved : goal.answers-preserved
answers-preserved g c =
    found_more g.I.ReadItems.answers c.args.events.now c.answers.events c.read_item.new.self c.answers.known c.note_event.new.known c.answers.found c.note_event.new.found (g.I.ReadItems.number c.read_item.new.self, c.in-Ok-Some.event) c.answers.invariant
    (rw c.in-Ok-Some.field-0-is at c.in-Ok-Some.ensures.answer) c.in_ok-note_event-in-Ok-Some.ensures

pub returns-in-Ok-None : goal.returns-in-Ok-None
returns-in-Ok-None g c =
    finds (reader_of g.I.ReadItems.answers g.I.ReadItems.number g.F.InputFault.refused g.F.InputFault.failed) c.args.events.now c.answers.events c.read_item.new.self c.answers.known c.answers.found (Ok None) c.answers.invariant
    (rw c.in-Ok-None.field-0-is at c.in-Ok-None.ensures.answer) tt

pub returns-in-Err-Fault : goal.returns-in-Err-Fault
returns-in-Err-Fault g c =
    finds (reader_of g.I.ReadItems.answers g.I.ReadItems.number g.F.InputFault.refused g.F.InputFault.failed) c.args.events.now c.answers.events c.read_item.new.self c.answers.known c.answers.found _ c.answers.invariant
    (rw c.in-Err-Fault.field-0-is at c.in-Err-Fault.ensures.answer) tt

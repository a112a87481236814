use Rattle.std.proofs.Common.{sym}
use Rattle.engine_core.specs.Input.{reader_of}
use Rattle.task_engine.proofs.ListedLemmas.{finds_of}
use Rattle.task_engine.proofs.listing.found_in.Goals as goal

pub returns : goal.returns
returns g c =
    let begun = c.begin-events.ensures in
    let state = g.I.EventInput.state in
    let parts = c.take_apart-reader.ensures in
    let end = c.find_blocks.new.events in
    rw (parts.left, parts.source, sym begun.left)
    (finds_of (reader_of g.I.ReadItems.answers g.I.ReadItems.number g.F.InputFault.refused g.F.InputFault.failed) (g.I.EventInput.look c.args.options).input (λ r. (state r).left) (λ r. (state r).source) c.begin-events.result end _ _
    (λ items answer gave. begun.looks.reads end items answer gave) c.in_ok-found.ensures)

use Rattle.task_engine.proofs.SkipLooks.{skipped_looks}
use Rattle.task_engine.proofs.event_input.SkipOtherGlobalEventInput.begin.Goals as goal

pub returns-clause-looks : goal.returns-clause-looks
returns-clause-looks g c =
    let new = c.new.ensures in
    skipped_looks g.I.ReadItems.answers g.I.ReadItems.number g.F.InputFault.refused g.F.InputFault.failed (g.I.EventInput.look c.args.options) g.I.EventInput.state c.new.result new.none (rw new.beneath c.begin.ensures.looks)

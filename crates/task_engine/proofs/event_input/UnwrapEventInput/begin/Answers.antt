use Rattle.std.proofs.Common.{◌∙◌}
use Rattle.task_engine.proofs.UnwrapLooks.{unwrapped_looks}
use Rattle.task_engine.proofs.event_input.UnwrapEventInput.begin.Goals as goal

pub returns-clause-looks : goal.returns-clause-looks
returns-clause-looks g c =
    let new = c.new.ensures in
    unwrapped_looks g.I.ReadItems.answers g.I.ReadItems.number g.F.InputFault.refused g.F.InputFault.failed c.args.options (g.I.EventInput.look c.args.options) g.I.EventInput.state c.new.result (new.changes ∙ c.changes_of.ensures) (rw new.beneath c.begin.ensures.looks)

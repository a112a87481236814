use Rattle.std.proofs.Common.{sym}
use Rattle.engine_core.specs.EventsText.{fault_text}
use Rattle.engine_core.specs.Input.{reader_of}
use Rattle.task_engine.specs.RequestText.{style_of}
use Rattle.task_engine.proofs.TaskReads.{over_look}
use Rattle.task_engine.proofs.over_events.over.Goals as goal

pub returns : goal.returns
returns g c =
    let e = c.of_events.ensures in
    let begun = c.begin-events.ensures in
    let all = over_look (reader_of g.I.ReadItems.answers g.I.ReadItems.number g.F.InputFault.refused g.F.InputFault.failed) (g.I.EventInput.look c.args.options) g.I.EventInput.state c.begin-events.result begun.looks g.I.EventInput.stop
    (fault_text g.F.LastLine.last_line g.F.LastObject.last_object) (style_of c.args.options) (g.T.EventTask.asked c.args.task) c.over.result _ _ (rw (sym c.style_of.ensures) c.over.ensures.text) in
    record {
      text = rw (e.ending, e.left, e.source, e.told, sym begun.left) all.text;
      passed = rw (e.ending, e.left, e.source, e.passed, sym begun.left) all.passes;
      links = rw (e.ending, e.left, e.source, e.links, sym begun.left) all.links;
      read_fault = rw (e.ending, e.source) all.failed;
      fault = rw e.ending c.over.ensures.fault;
    }

use Rattle.std.proofs.Common.{ℕ, subst}
use Rattle.engine_core.specs.EventsText.{exactly_each, fault_text, over_in}
use Rattle.engine_core.specs.Input.{reader_of}
use Rattle.engine_core.specs.RunOver.{RunsOver}
use Rattle.object_core.specs.declared.counted.Form.{Form}
use Rattle.exchange_engines.specs.computed.WatchStep.{watch_event}
use Rattle.exchange_engines.proofs.WatchLemmas.{watch_of}
use Rattle.exchange_engines.proofs.engines.watch.watch_over.Goals as goal

pub returns-clause-text : goal.returns-clause-text
returns-clause-text g c =
    let id = c.args.id.now in
    let run = subst (λ (p : ℕ). RunsOver (reader_of g.I.ReadItems.answers g.I.ReadItems.number g.F.InputFault.refused g.F.InputFault.failed) (over_in c.args.style (exactly_each (λ (form : Form). watch_event {A = g.row.A.Denot} form p id)) (fault_text g.F.LastLine.last_line g.F.LastObject.last_object)) c.args.events c.run_events.result (g.W.Sink.contents c.args.writer.now) (g.W.Sink.contents c.run_events.new.writer)) c.in-Ok.ensures.period c.run_events.ensures.text in
    record { by = λ form. watch_event form c.args.period id; is = λ form. watch_of form c.args.period id; is_left = run }

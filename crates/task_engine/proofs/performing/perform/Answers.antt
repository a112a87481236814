use Rattle.std.proofs.Common.{refl, subst, sym}
use Rattle.list_core.specs.declared.device.InputEnd.{InputEnd}
use Rattle.frame_engines.specs.ImportText.{ImportsTo}
use Rattle.task_engine.proofs.performing.perform.Goals as goal

pub returns-in-Rewrite-clause-text : goal.returns-in-Rewrite-clause-text
returns-in-Rewrite-clause-text g c = rw c.in-Rewrite.is c.perform_rewrite.ensures.text

pub returns-in-Publish-clause-text : goal.returns-in-Publish-clause-text
returns-in-Publish-clause-text g c =
    let r = c.publish_to_stop.ensures.text in
    rw (c.in-Publish.is, c.of_script.ensures.left, c.of_script.ensures.source, c.of_script.ensures.ending, c.of_script.ensures.told) (r.0, r.1, (c.publish_to_stop.result.fault, r.2, refl))

pub returns-in-Import-clause-text : goal.returns-in-Import-clause-text
returns-in-Import-clause-text g c =
    let r = c.import_to_stop.ensures.text in
    let stopped = c.import_to_stop.result in
    rw (c.in-Import.is, c.of_capture.ensures.reader, c.of_capture.ensures.ending, c.of_capture.ensures.told) (
      r.0,
      r.1,
      (
        stopped.fault,
        subst (λ (z : InputEnd). ImportsTo z stopped.ending (g.R.Source.ending stopped.reader) r.0 (g.W.Sink.contents c.args.writer.now) (g.W.Sink.contents c.import_to_stop.new.writer) stopped.fault) c.requires.open r.2,
        refl,
      ),
    )

pub returns-in-Show : goal.returns-in-Show
returns-in-Show g c = let e = c.over_events.ensures in record { text = rw c.in-Show.is e.text; passed = rw c.in-Show.is e.passed; links = rw c.in-Show.is e.links; read_fault = e.read_fault; fault = e.fault }

pub returns-in-Check : goal.returns-in-Check
returns-in-Check g c = let e = c.over_events-in-Check.ensures in record { text = rw c.in-Check.is e.text; passed = rw c.in-Check.is e.passed; links = rw c.in-Check.is e.links; read_fault = e.read_fault; fault = e.fault }

pub returns-in-Blocks : goal.returns-in-Blocks
returns-in-Blocks g c = let e = c.over_events-in-Blocks.ensures in record { text = rw c.in-Blocks.is e.text; passed = rw c.in-Blocks.is e.passed; links = rw c.in-Blocks.is e.links; read_fault = e.read_fault; fault = e.fault }

pub returns-in-Replay : goal.returns-in-Replay
returns-in-Replay g c = let e = c.over_events-in-Replay.ensures in record { text = rw (c.in-Replay.is, sym c.manner_of-manner.ensures) e.text; passed = rw c.in-Replay.is e.passed; links = rw c.in-Replay.is e.links; read_fault = e.read_fault; fault = e.fault }

pub returns-in-Watch : goal.returns-in-Watch
returns-in-Watch g c = let e = c.over_events-in-Watch.ensures in record { text = rw (c.in-Watch.is, sym c.as_slice-id.ensures.value) e.text; passed = rw c.in-Watch.is e.passed; links = rw c.in-Watch.is e.links; read_fault = e.read_fault; fault = e.fault }

pub returns-in-Losses : goal.returns-in-Losses
returns-in-Losses g c = let e = c.over_events-in-Losses.ensures in record { text = rw c.in-Losses.is e.text; passed = rw c.in-Losses.is e.passed; links = rw c.in-Losses.is e.links; read_fault = e.read_fault; fault = e.fault }

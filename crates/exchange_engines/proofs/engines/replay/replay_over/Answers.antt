use Rattle.std.proofs.Common.{List, subst, refl, inl, inr, ◌∙◌}
use Rattle.std.proofs.lemmas.Bool.{false≢true}
use Rattle.block_core.specs.declared.block.Block.{Block}
use Rattle.engine_core.specs.EventsText.{fault_text, over_in}
use Rattle.engine_core.specs.Input.{reader_of}
use Rattle.engine_core.specs.RunOver.{RunsOver}
use Rattle.exchange_engines.specs.declared.engines.replay.ReplayManner.{ReplayManner}
use Rattle.exchange_engines.specs.ReplayText.{LeavesTwiceIn}
use Rattle.exchange_engines.specs.computed.ReplayStep.{replay_allows, replay_tells}
use Rattle.exchange_engines.proofs.ReplayLemmas.{replay_told}
use Rattle.exchange_engines.proofs.engines.replay.replay_over.Goals as goal

pub returns-in-Ok-begun-clause-text : goal.returns-in-Ok-begun-clause-text
returns-in-Ok-begun-clause-text g c =
    let manner = c.args.manner in
    let stopped = c.run_events.result in
    let begun = c.in-Ok-begun.ensures in
    let same = (begun.begun c.args.blocks.items c.in-Ok.ensures.fresh).0 in
    let run = subst (λ (m : ReplayManner). RunsOver (reader_of g.I.ReadItems.answers g.I.ReadItems.number g.F.InputFault.refused g.F.InputFault.failed) (over_in c.args.style (replay_allows m c.in-Ok-begun.engine.subscriber.state.blocks) (fault_text g.F.LastLine.last_line g.F.LastObject.last_object)) c.args.events stopped (g.W.Sink.contents c.args.writer.now) (g.W.Sink.contents c.run_events.new.writer)) begun.manner c.run_events.ensures.text in
    let left = subst (λ (bs : List (Block g.row.A.Denot)). RunsOver (reader_of g.I.ReadItems.answers g.I.ReadItems.number g.F.InputFault.refused g.F.InputFault.failed) (over_in c.args.style (replay_allows manner bs) (fault_text g.F.LastLine.last_line g.F.LastObject.last_object)) c.args.events stopped (g.W.Sink.contents c.args.writer.now) (g.W.Sink.contents c.run_events.new.writer)) same run in
    rw (c.of_input.ensures.ending, c.of_input.ensures.fault, c.of_input.ensures.reader) (inr (inr (record {
      are_apart = c.in-Ok.ensures.apart;
      fault = stopped.fault;
      by = refl;
      is_left = record { by = replay_tells manner c.args.blocks.items; is = replay_told manner c.args.blocks.items; is_left = left };
    })))

pub returns-in-SameBlockTwice-clause-text : goal.returns-in-SameBlockTwice-clause-text
returns-in-SameBlockTwice-clause-text g c =
    let twice = rw c.in-SameBlockTwice.is at c.in-Err.ensures.fault in
    let old = g.W.Sink.contents c.args.writer.now in
    let new = g.W.Sink.contents c.refuse_twice-ending.new.writer in
    let written = subst (λ (bs : List (Block g.row.A.Denot)). LeavesTwiceIn c.args.style bs c.in-SameBlockTwice.position c.refuse_twice-ending.result.0 old new) (c.as_slice-blocks.ensures.value ∙ c.in-Err.ensures.back) c.refuse_twice-ending.ensures.written in
    rw (c.unread-in-SameBlockTwice.ensures.ending, c.unread-in-SameBlockTwice.ensures.fault, c.unread-in-SameBlockTwice.ensures.reader) (inl (
      record {
        position = c.in-SameBlockTwice.position;
        is_twice = twice;
        untouched = c.refuse_twice-ending.ensures.reader;
        written = written;
      },
      c.stop_of_twice.ensures,
    ))

pub returns-clause-text : goal.returns-clause-text
returns-clause-text g c =
    let some = rw c.in-Memory.is at c.in-Err.ensures.fault in
    rw (c.unread-in-Memory.ensures.ending, c.unread-in-Memory.ensures.fault, c.unread-in-Memory.ensures.reader)
    (inr (inl (record { wants_memory = refl; are_apart = some.0; are_some = λ plain. some.1; untouched = refl; none_written = refl }, refl)))

pub returns-in-Ok-clause-text : goal.returns-in-Ok-clause-text
returns-in-Ok-clause-text g c =
    rw (c.unread.ensures.ending, c.unread.ensures.fault, c.unread.ensures.reader)
    (inr (inl (
      record {
        wants_memory = refl;
        are_apart = c.in-Ok.ensures.apart;
        are_some = λ plain none. absurd (false≢true (c.in-Err-begun.ensures.quiet c.args.blocks.items c.in-Ok.ensures.fresh plain));
        untouched = refl;
        none_written = refl;
      },
      refl,
    )))

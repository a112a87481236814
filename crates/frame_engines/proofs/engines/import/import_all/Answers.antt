use Rattle.std.proofs.Common.{◌++◌, ◌∷◌, [], ◌+◌, ◌∙◌, arith, refl, rules, sym}
use Rattle.list_core.proofs.Devices.{Appends-none}
use Rattle.frame_engines.proofs.ImportLemmas.{bad_header, found_more, import_ended, import_stopped, not_begun, read_failed, took_header, took_more, wrote_more}
use Rattle.frame_engines.proofs.engines.import.import_all.Goals as goal

pub returns-in-Err-clause-text : goal.returns-in-Err-clause-text
returns-in-Err-clause-text g c = not_begun _ _ _ _ c.in-Err.ensures.written.1

pub returns-in-Err-read_header-clause-text : goal.returns-in-Err-read_header-clause-text
returns-in-Err-read_header-clause-text g c =
    rw (c.ended_by.ensures.ending, c.ended_by.ensures.fault) (bad_header _ _ _ _ c.in-Err-read_header.fault _ _ _ _ c.in-Err-read_header.ensures.header c.in-Ok.ensures.written (c.answer_fault.ensures.writes 0))

pub returns-in-Err-read_header-clause-read_fault : goal.returns-in-Err-read_header-clause-read_fault
returns-in-Err-read_header-clause-read_fault g c = λ e.
    c.in-Err-read_header.ensures.failed (read_failed 0 _ _ _ _ (c.answer_fault.ensures.writes 0) (sym c.ended_by.ensures.ending ∙ e))

pub records-init : goal.records-init
records-init g c = record {
  few = omega arith;
  works = search rules;
  so_far = ([], took_header _ _ _ _ _ c.in-Ok-read_header.ensures.header, Appends-none _, refl);
}

pub records-preserved : goal.records-preserved
records-preserved g c =
    let so_far = c.records.invariant.so_far in
    let step = c.in-Wrote.ensures.step in
    let wrote = step.2 in
    let answer = rw wrote.1 at step.1 in
    record {
      few = omega (arith, answer.room);
      works = search rules;
      so_far = (
        so_far.0 ++ (c.records.count + 1, wrote.0) ∷ [],
        took_more c.in-Ok-read_header.form _ _ _ _ _ _ so_far.0 c.records.count wrote.0 so_far.1 answer,
        wrote_more so_far.0 (c.records.count + 1) wrote.0 _ _ _ so_far.2 wrote.3,
        found_more so_far.0 (c.records.count + 1) wrote.0 c.records.found c.in-Wrote.is_left_out so_far.3 wrote.2,
      );
    }

pub returns-in-Ended-clause-text : goal.returns-in-Ended-clause-text
returns-in-Ended-clause-text g c =
    let so_far = c.records.invariant.so_far in
    let step = c.in-Ended.ensures.step in
    let answer = rw step.2.0 at step.1 in
    rw c.ending_where.ensures (import_ended c.in-Ok-read_header.form _ _ _ _ _ _ so_far.0 c.records.count _ _ _ _ so_far.1 c.in-Ok.ensures.written so_far.2 c.records.found so_far.3 answer step.2.1)

pub returns-in-Stop-clause-text : goal.returns-in-Stop-clause-text
returns-in-Stop-clause-text g c =
    let so_far = c.records.invariant.so_far in
    let step = c.in-Stop.ensures.step in
    rw (c.ended_by-in-Stop.ensures.ending, c.ended_by-in-Stop.ensures.fault) (import_stopped c.in-Ok-read_header.form _ _ _ _ _ _ so_far.0 c.records.count _ _ _ _ so_far.1 c.in-Ok.ensures.written so_far.2 step.0 c.in-Stop.halt step.1 step.2)

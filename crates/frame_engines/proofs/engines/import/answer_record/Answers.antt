use Rattle.std.proofs.Common.{◌≡◌}
use Rattle.engine_core.specs.declared.stopped.Halt.TheVariants as halt
use Rattle.frame_engines.proofs.ImportLemmas.{read_failed}
use Rattle.frame_engines.proofs.engines.import.answer_record.Goals as goal

pub returns-in-Err-clause-read_fault : goal.returns-in-Err-clause-read_fault
returns-in-Err-clause-read_fault g c = λ why stops e.
    let same : c.answer_fault.result ≡ halt.Fault why = cc in
    c.in-Err.ensures.failed (read_failed 0 _ _ _ _ (c.answer_fault.ensures.writes 0) (rw same e))

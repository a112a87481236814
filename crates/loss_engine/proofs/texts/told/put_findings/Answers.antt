use Rattle.std.proofs.Common.{None}
use Rattle.std.proofs.lemmas.Bool.{false≢true}
use Rattle.loss_engine.proofs.Rows.{none_at}
use Rattle.loss_engine.proofs.texts.told.put_findings.Goals as goal

pub returns-in_err-is_found-clause-quiet : goal.returns-in_err-is_found-clause-quiet
returns-in_err-is_found-clause-quiet g c =
    λ none. absurd (false≢true (c.in_err-is_found.ensures.quiet (none_at c.args.findings.now c.loop-finding.finding-index None c.loop-finding-test.true none)))

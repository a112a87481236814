use Rattle.script_core.proofs.ScriptLaws.{lines_are_kept, lines_are_read}
use Rattle.script_core.proofs.laws.lines_are_read.Goals as goal

pub returns-clause-read : goal.returns-clause-read
returns-clause-read g c = lines_are_read

pub returns-clause-kept : goal.returns-clause-kept
returns-clause-kept g c = lines_are_kept

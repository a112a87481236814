use Rattle.engine_core.proofs.PlainRuns as runs
use Rattle.engine_core.proofs.laws.dated_as_plain.Goals as goal

pub returns : goal.returns
returns g c = runs.dated_as_plain

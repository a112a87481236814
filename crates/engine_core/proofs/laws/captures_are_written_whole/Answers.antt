use Rattle.engine_core.specs.CaptureRun.{capture_input}
use Rattle.engine_core.specs.MadeRun.{made}
use Rattle.engine_core.proofs.WholeRuns.{input_is}
use Rattle.engine_core.proofs.laws.captures_are_written_whole.Goals as goal

pub returns : goal.returns
returns g c = λ engine make. input_is (made make capture_input) (g.E.Engine.allows engine)

use Rattle.engine_core.specs.MadeRun.{made}
use Rattle.engine_core.specs.Run.{list_input}
use Rattle.engine_core.proofs.WholeRuns.{input_is}
use Rattle.engine_core.proofs.laws.lists_are_written_whole.Goals as goal

pub returns : goal.returns
returns g c = λ engine rules make. input_is (made make (list_input g.G.LineRules.rules rules)) (g.E.Engine.allows engine)

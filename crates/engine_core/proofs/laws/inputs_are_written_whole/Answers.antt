use Rattle.engine_core.proofs.WholeRuns.{inputs_are}
use Rattle.engine_core.proofs.laws.inputs_are_written_whole.Goals as goal

pub returns : goal.returns
returns g c = λ engine. inputs_are (g.E.Engine.allows engine)

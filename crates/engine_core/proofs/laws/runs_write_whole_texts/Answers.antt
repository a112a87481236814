use Rattle.engine_core.proofs.WholeTexts.{runs_write}
use Rattle.engine_core.proofs.laws.runs_write_whole_texts.Goals as goal

pub returns : goal.returns
returns g c = runs_write

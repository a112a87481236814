use Rattle.subscribe_core.proofs.Acted.{acts_are_told}
use Rattle.subscribe_core.proofs.laws.acts_are_told.Goals as goal

pub returns : goal.returns
returns g c = acts_are_told

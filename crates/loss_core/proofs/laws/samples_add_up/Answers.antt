use Rattle.loss_core.proofs.AddUp.{samples_add_up}
use Rattle.loss_core.proofs.laws.samples_add_up.Goals as goal

pub returns : goal.returns
returns c = samples_add_up

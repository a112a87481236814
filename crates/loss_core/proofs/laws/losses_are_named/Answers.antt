use Rattle.loss_core.proofs.Losses.{each_is_told, missing_are_named}
use Rattle.loss_core.proofs.laws.losses_are_named.Goals as goal

pub returns-clause-missing : goal.returns-clause-missing
returns-clause-missing c = missing_are_named

pub returns-clause-each : goal.returns-clause-each
returns-clause-each c = each_is_told

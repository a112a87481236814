use Rattle.subscribe_core.proofs.Again.{first_twice_is}
use Rattle.subscribe_core.proofs.names.first_twice.Goals as goal

pub returns : goal.returns
returns g c = λ blocks named. first_twice_is c.args.names.now blocks _ named c.requires c.least_again.ensures

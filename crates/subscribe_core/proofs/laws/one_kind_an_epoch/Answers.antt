use Rattle.subscribe_core.proofs.Alike.{one_kind}
use Rattle.subscribe_core.proofs.laws.one_kind_an_epoch.Goals as goal

pub returns : goal.returns
returns g c = one_kind

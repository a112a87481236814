use Rattle.std.proofs.Common.{refl}
use Rattle.exchange_engines.proofs.engines.publish.take_change.Goals as goal

pub same-values : goal.same-values
same-values g c = refl

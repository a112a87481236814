use Rattle.joint_laws.proofs.exchange_lemmas.Received.{changes_acted_on}
use Rattle.joint_laws.proofs.exchange.changes_are_acted_on_in_order.Goals as goal

pub returns : goal.returns
returns g c = changes_acted_on

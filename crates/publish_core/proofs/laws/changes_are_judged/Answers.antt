use Rattle.publish_core.proofs.Judged as judged
use Rattle.publish_core.proofs.laws.changes_are_judged.Goals as goal

pub returns : goal.returns
returns g c = judged.changes_are_judged

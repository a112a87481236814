use Rattle.pdu_core.proofs.SeenAsdus.{seen_is_one, seen_is_spelled}
use Rattle.pdu_core.proofs.laws.seen_is_spelled.Goals as goal

pub returns-clause-spelled : goal.returns-clause-spelled
returns-clause-spelled g c = seen_is_spelled _

pub returns-clause-only : goal.returns-clause-only
returns-clause-only g c = seen_is_one _

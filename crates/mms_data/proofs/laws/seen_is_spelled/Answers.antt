use Rattle.mms_data.proofs.OneReading.{seen_is_one, seen_is_spelled}
use Rattle.mms_data.proofs.laws.seen_is_spelled.Goals as goal

pub returns-clause-spelled : goal.returns-clause-spelled
returns-clause-spelled c = seen_is_spelled

pub returns-clause-only : goal.returns-clause-only
returns-clause-only c = seen_is_one

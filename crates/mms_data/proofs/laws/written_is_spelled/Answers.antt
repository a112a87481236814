use Rattle.mms_data.proofs.WrittenSpelled.{written_is_spelled, all_written_are_spelled}
use Rattle.mms_data.proofs.laws.written_is_spelled.Goals as goal

pub returns-clause-value : goal.returns-clause-value
returns-clause-value c = written_is_spelled

pub returns-clause-members : goal.returns-clause-members
returns-clause-members c = all_written_are_spelled

use Rattle.mms_data.specs.Data.{items_of}
use Rattle.mms_data.proofs.Least.{items_least, least}
use Rattle.mms_data.proofs.laws.written_is_shortest.Goals as goal

pub returns-clause-value : goal.returns-clause-value
returns-clause-value c = least

pub returns-clause-members : goal.returns-clause-members
returns-clause-members c = λ ds. items_least (items_of ds)

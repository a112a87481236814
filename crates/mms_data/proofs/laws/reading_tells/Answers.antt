use Rattle.mms_data.proofs.OneReading.{reading_is_true, reading_tells}
use Rattle.mms_data.proofs.laws.reading_tells.Goals as goal

pub returns-clause-told : goal.returns-clause-told
returns-clause-told c = reading_tells

pub returns-clause-only : goal.returns-clause-only
returns-clause-only c = reading_is_true

use Rattle.mms_data.proofs.SpelledSpellable.{value_spellable}
use Rattle.mms_data.proofs.laws.spelled_is_spellable.Goals as goal

pub returns : goal.returns
returns c = value_spellable

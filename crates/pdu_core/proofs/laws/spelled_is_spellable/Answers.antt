use Rattle.pdu_core.proofs.SampledSpelledSpellable.{sv_spellable}
use Rattle.pdu_core.proofs.SpelledSpellable.{goose_spellable}
use Rattle.pdu_core.proofs.laws.spelled_is_spellable.Goals as goal

pub returns-clause-goose : goal.returns-clause-goose
returns-clause-goose g c = goose_spellable

pub returns-clause-sv : goal.returns-clause-sv
returns-clause-sv g c = sv_spellable

use Rattle.std.proofs.Common.{sym, ◌∙◌}
use Rattle.mms_data.specs.Value.{data_of}
use Rattle.mms_data.proofs.SpellableLaws.{spelled_true, spelled_is}
use Rattle.mms_data.proofs.spellable.is_spellable.Goals as goal

pub returns-clause-exactly : goal.returns-clause-exactly
returns-clause-exactly g c = (λ e. spelled_is (data_of c.args.value.now) c.args.level (sym c.test_value.ensures ∙ e), λ h. c.test_value.ensures ∙ spelled_true (data_of c.args.value.now) c.args.level h)

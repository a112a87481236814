use Rattle.std.proofs.Common.{sym, ◌∙◌}
use Rattle.mms_data.specs.Data.{items_of}
use Rattle.mms_data.proofs.SpellableLaws.{all_true, all_is}
use Rattle.mms_data.proofs.spellable.are_spellable.Goals as goal

pub returns-clause-exactly : goal.returns-clause-exactly
returns-clause-exactly g c = (λ e. all_is (items_of c.args.values.now) c.args.level (sym c.test_values.ensures ∙ e), λ h. c.test_values.ensures ∙ all_true (items_of c.args.values.now) c.args.level h)

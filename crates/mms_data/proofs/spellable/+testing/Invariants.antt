use Rattle.std.proofs.Common.{◌≡◌, ◌+◌, ◌*◌, drop}
use Rattle.mms_data.specs.Value.{data_of, datas}
use Rattle.mms_data.specs.computed.Weight.{weight, weight_of_all}
use Rattle.mms_data.specs.computed.SpellableTest.{all_are_spellable}
use Rattle.mms_data.proofs.spellable.+testing.Given as goal

abbrev pub decreases-test_value : goal.decreases-test_value
decreases-test_value g l = 2 * weight (data_of l.value.now) + 1

abbrev pub decreases-test_values : goal.decreases-test_values
decreases-test_values g l = 2 * weight_of_all l.values.now

abbrev pub invariant-test_values-loop-value : goal.invariant-test_values-loop-value
invariant-test_values-loop-value g l = all_are_spellable (datas (drop l.value-index l.values)) l.level ≡ all_are_spellable (datas l.values) l.level

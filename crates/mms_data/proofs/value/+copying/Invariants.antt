use Rattle.std.proofs.Common.{◌≡◌, ◌+◌, ◌*◌, take}
use Rattle.mms_data.specs.Value.{data_of}
use Rattle.mms_data.specs.computed.Weight.{weight, weight_of_all}
use Rattle.mms_data.proofs.value.+copying.Given as goal

abbrev pub decreases-ValueList::try_copy : goal.decreases-ValueList::try_copy
decreases-ValueList::try_copy g l = 2 * weight_of_all l.self.now

abbrev pub decreases-Value::try_copy : goal.decreases-Value::try_copy
decreases-Value::try_copy g l = 2 * weight (data_of l.self.now) + 1

abbrev pub invariant-ValueList::try_copy-loop-value : goal.invariant-ValueList::try_copy-loop-value
invariant-ValueList::try_copy-loop-value g l = l.copies.items ≡ take l.value-index l.values

use Rattle.std.proofs.Common.{◌≡◌, ◌+◌, ◌-◌, ◌*◌, ◌≤◌, length, drop}
use Rattle.mms_data.specs.Value.{data_of, datas}
use Rattle.mms_data.specs.computed.Weight.{weight, weight_of_all}
use Rattle.mms_data.specs.Written.{written_all}
use Rattle.mms_data.proofs.measuring.+measuring.Given as goal

abbrev pub decreases-value_length : goal.decreases-value_length
decreases-value_length g l = 3 * weight (data_of l.value.now) + 2

abbrev pub decreases-contents_length : goal.decreases-contents_length
decreases-contents_length g l = 3 * weight (data_of l.value.now) + 1

abbrev pub decreases-values_length : goal.decreases-values_length
decreases-values_length g l = 3 * weight_of_all l.values.now

abbrev pub invariant-values_length-loop-value : goal.invariant-values_length-loop-value
invariant-values_length-loop-value g l =
    record {
      fits : l.left ≤ l.limit;
      all : (l.limit - l.left) + length (written_all (datas (drop l.value-index l.values))) ≡ length (written_all (datas l.values));
    }

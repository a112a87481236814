use Rattle.std.proofs.Common.{◌≡◌, ◌+◌, ◌*◌, ◌≤◌, ◌++◌, length, drop}
use Rattle.mms_data.specs.Value.{data_of, datas}
use Rattle.mms_data.specs.computed.Weight.{weight, weight_of_all}
use Rattle.mms_data.specs.Written.{written_all}
use Rattle.mms_data.proofs.putting.+putting.Given as goal

abbrev pub decreases-put : goal.decreases-put
decreases-put g l = 3 * weight (data_of l.value.now) + 2

abbrev pub decreases-put_nested_values : goal.decreases-put_nested_values
decreases-put_nested_values g l = 3 * weight_of_all l.values.now + 1

abbrev pub decreases-put_each : goal.decreases-put_each
decreases-put_each g l = 3 * weight_of_all l.values.now

abbrev pub invariant-put_each-loop-value : goal.invariant-put_each-loop-value
invariant-put_each-loop-value g l =
    record {
      grown : length l.initial.out.items ≤ length l.out.items;
      all : l.out.items ++ written_all (datas (drop l.value-index l.values)) ≡ l.initial.out.items ++ written_all (datas l.values);
    }

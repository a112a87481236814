use Rattle.std.proofs.Common.{◌≡◌, ◌+◌, ◌*◌, ◌≤◌, length, take, drop}
use Rattle.mms_data.specs.Value.{data_of, datas}
use Rattle.mms_data.specs.computed.Weight.{weight, weight_of_all}
use Rattle.object_core.proofs.MemberTexts.{Continues}
use Rattle.object_core.proofs.owned.+owned.Given as goal

abbrev pub invariant-put_others-loop-value : goal.invariant-put_others-loop-value
invariant-put_others-loop-value g l = record {
  within : l.value-index ≤ length l.others;
  kept : take (length l.initial.out.items) l.out.items ≡ l.initial.out.items;
  so_far : Continues l.initial.out.items (datas l.others) l.out.items (datas (drop l.value-index l.others));
}

abbrev pub decreases-put_value_object : goal.decreases-put_value_object
decreases-put_value_object g l = 4 * weight (data_of l.value.now) + 3

abbrev pub decreases-put_array_object : goal.decreases-put_array_object
decreases-put_array_object g l = 4 * weight_of_all l.values.now + 2

abbrev pub decreases-put_structure_object : goal.decreases-put_structure_object
decreases-put_structure_object g l = 4 * weight_of_all l.values.now + 2

abbrev pub decreases-put_values_object : goal.decreases-put_values_object
decreases-put_values_object g l = 4 * weight_of_all l.values.now + 1

abbrev pub decreases-put_others : goal.decreases-put_others
decreases-put_others g l = 4 * weight_of_all (datas l.others.now)

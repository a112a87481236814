use Rattle.std.proofs.Common.{◌≡◌, ◌+◌, ◌*◌, ◌++◌, ◌≤◌, length, take}
use Rattle.std.specs.List.{flat_map}
use Rattle.mms_data.specs.Value.{data_of, datas}
use Rattle.mms_data.specs.computed.Weight.{weight, weight_of_all}
use Rattle.text_core.specs.Pieces.{after_space}
use Rattle.text_core.specs.ValueText.{value_text}
use Rattle.text_core.proofs.owned.+owned.Given as goal

abbrev pub invariant-put_others-loop-value : goal.invariant-put_others-loop-value
invariant-put_others-loop-value g l = record {
  within : l.value-index ≤ length l.others;
  text : l.out.items ≡ l.initial.out.items ++ flat_map (after_space value_text) (datas (take l.value-index l.others));
}

abbrev pub decreases-put_value_text : goal.decreases-put_value_text
decreases-put_value_text g l = 3 * weight (data_of l.value.now) + 2

abbrev pub decreases-put_between : goal.decreases-put_between
decreases-put_between g l = 3 * weight_of_all l.values.now + 1

abbrev pub decreases-put_spaced : goal.decreases-put_spaced
decreases-put_spaced g l = 3 * weight_of_all l.values.now

abbrev pub decreases-put_others : goal.decreases-put_others
decreases-put_others g l = 3 * weight_of_all (datas l.others.now)

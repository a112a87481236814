use Rattle.std.proofs.Common.{◌≡◌, ◌≤◌, ◌+◌, ◌*◌, ◌++◌, length, take}
use Rattle.std.specs.List.{flat_map}
use Rattle.mms_data.specs.Meaning.{left, meaning}
use Rattle.mms_data.specs.computed.Weight.{weight, weight_of_all}
use Rattle.text_core.specs.Pieces.{after_space}
use Rattle.text_core.specs.ValueText.{value_text}
use Rattle.text_core.proofs.value.+texts.Given as goal

abbrev pub decreases-put_between : goal.decreases-put_between
decreases-put_between g l = 4 * weight_of_all (left l.members) + 1

abbrev pub decreases-put_member_text : goal.decreases-put_member_text
decreases-put_member_text g l = 4 * weight (meaning l.view.now) + 4

abbrev pub decreases-put_nested : goal.decreases-put_nested
decreases-put_nested g l = 4 * weight_of_all (left l.members.now) + 2

abbrev pub decreases-put_others : goal.decreases-put_others
decreases-put_others g l = 4 * weight_of_all (left l.others) + 1

abbrev pub invariant-put_others-members : goal.invariant-put_others-members
invariant-put_others-members g l = record {
  kept : take (length l.initial.out.items) l.out.items ≡ l.initial.out.items;
  so_far : l.out.items ++ flat_map (after_space value_text) (left l.others) ≡ l.initial.out.items ++ flat_map (after_space value_text) (left l.initial.others);
  fewer : weight_of_all (left l.others) ≤ weight_of_all (left l.initial.others);
}

abbrev pub decreases-put_others-members : goal.decreases-put_others-members
decreases-put_others-members g l = weight_of_all (left l.others)

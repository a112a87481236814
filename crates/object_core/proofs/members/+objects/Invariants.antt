use Rattle.std.proofs.Common.{◌≡◌, ◌≤◌, ◌+◌, ◌*◌, length, take}
use Rattle.mms_data.specs.Meaning.{left, meaning}
use Rattle.mms_data.specs.computed.Weight.{weight, weight_of_all}
use Rattle.object_core.proofs.MemberTexts.{Continues}
use Rattle.object_core.proofs.members.+objects.Given as goal

abbrev pub decreases-put_members_object : goal.decreases-put_members_object
decreases-put_members_object g l = 4 * weight_of_all (left l.members) + 1

abbrev pub decreases-put_member_object : goal.decreases-put_member_object
decreases-put_member_object g l = 4 * weight (meaning l.view.now) + 4

abbrev pub decreases-put_array_object : goal.decreases-put_array_object
decreases-put_array_object g l = 4 * weight_of_all (left l.members.now) + 2

abbrev pub decreases-put_structure_object : goal.decreases-put_structure_object
decreases-put_structure_object g l = 4 * weight_of_all (left l.members.now) + 2

abbrev pub decreases-put_others : goal.decreases-put_others
decreases-put_others g l = 4 * weight_of_all (left l.others) + 1

abbrev pub invariant-put_others-members : goal.invariant-put_others-members
invariant-put_others-members g l = record {
  kept : take (length l.initial.out.items) l.out.items ≡ l.initial.out.items;
  so_far : Continues l.initial.out.items (left l.initial.others) l.out.items (left l.others);
  fewer : weight_of_all (left l.others) ≤ weight_of_all (left l.initial.others);
}

abbrev pub decreases-put_others-members : goal.decreases-put_others-members
decreases-put_others-members g l = weight_of_all (left l.others)

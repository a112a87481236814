use Rattle.std.proofs.Common.{◌≡◌, ◌≤◌, ◌+◌, ◌*◌}
use Rattle.mms_data.specs.Meaning.{left, meaning}
use Rattle.mms_data.specs.computed.Weight.{weight, weight_of_all}
use Rattle.frame_engines.specs.computed.SettledMembers.{are_settled}
use Rattle.frame_engines.proofs.texts.settled.+settled.Given as goal

abbrev pub decreases-is_member_settled : goal.decreases-is_member_settled
decreases-is_member_settled l = 2 * weight (meaning l.view.now) + 1

abbrev pub decreases-are_members_settled : goal.decreases-are_members_settled
decreases-are_members_settled l = 2 * weight_of_all (left l.members)

abbrev pub invariant-are_members_settled-members : goal.invariant-are_members_settled-members
invariant-are_members_settled-members l = record {
  same : are_settled (left l.initial.others) ≡ are_settled (left l.others);
  fewer : weight_of_all (left l.others) ≤ weight_of_all (left l.initial.others);
}

abbrev pub decreases-are_members_settled-members : goal.decreases-are_members_settled-members
decreases-are_members_settled-members l = weight_of_all (left l.others)

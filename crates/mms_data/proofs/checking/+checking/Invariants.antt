use Rattle.std.proofs.Common.{◌+◌, ◌-◌, ◌*◌, ◌≤◌}
use Rattle.mms_data.proofs.Checked.{Counts}
use Rattle.mms_data.proofs.checking.+checking.Given as goal

abbrev pub decreases-count_members : goal.decreases-count_members
decreases-count_members g l = 3 * l.depth + 2

abbrev pub decreases-pass_other : goal.decreases-pass_other
decreases-pass_other g l = 3 * l.depth + 1

abbrev pub decreases-check_contents : goal.decreases-check_contents
decreases-check_contents g l = 3 * l.depth + 3

abbrev pub invariant-count_members-members : goal.invariant-count_members-members
invariant-count_members-members g l = Counts l.depth l.at l.octets l.end l.place l.count l.written

abbrev pub decreases-count_members-members : goal.decreases-count_members-members
decreases-count_members-members g l = l.end - l.place

abbrev pub invariant-count_members-plain : goal.invariant-count_members-plain
invariant-count_members-plain g l = record { so_far : Counts l.depth l.at l.octets l.end l.place l.count l.written; on : l.initial.place ≤ l.place }

abbrev pub decreases-count_members-plain : goal.decreases-count_members-plain
decreases-count_members-plain g l = l.end - l.place

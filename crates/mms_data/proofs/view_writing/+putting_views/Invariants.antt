use Rattle.std.proofs.Common.{◌≡◌, ◌≤◌, ◌+◌, ◌*◌, ◌++◌, length}
use Rattle.mms_data.specs.Meaning.{left, meaning}
use Rattle.mms_data.specs.Written.{written_all}
use Rattle.mms_data.specs.computed.Weight.{weight, weight_of_all}
use Rattle.mms_data.proofs.view_writing.+putting_views.Given as goal

abbrev pub decreases-put_view : goal.decreases-put_view
decreases-put_view g l = 3 * weight (meaning l.view) + 2

abbrev pub decreases-put_members : goal.decreases-put_members
decreases-put_members g l = 3 * weight_of_all (left l.members) + 1

abbrev pub decreases-put_each : goal.decreases-put_each
decreases-put_each g l = 3 * weight_of_all (left l.members)

abbrev pub invariant-put_each-members : goal.invariant-put_each-members
invariant-put_each-members g l =
    record {
      grown : length l.initial.out.items ≤ length l.out.items;
      within : weight_of_all (left l.others) ≤ weight_of_all (left l.members);
      all : l.out.items ++ written_all (left l.others) ≡ l.initial.out.items ++ written_all (left l.members);
    }

abbrev pub decreases-put_each-members : goal.decreases-put_each-members
decreases-put_each-members g l = weight_of_all (left l.others)

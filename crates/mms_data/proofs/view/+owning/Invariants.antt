use Rattle.std.proofs.Common.{◌≡◌, ◌+◌, ◌*◌, ◌++◌}
use Rattle.mms_data.specs.Value.{datas}
use Rattle.mms_data.specs.computed.Weight.{weight, weight_of_all}
use Rattle.mms_data.specs.Meaning.{left, meaning}
use Rattle.mms_data.proofs.view.+owning.Given as goal

abbrev pub decreases-Members::to_values : goal.decreases-Members::to_values
decreases-Members::to_values g l = 2 * weight_of_all (left l.self)

abbrev pub decreases-View::to_value : goal.decreases-View::to_value
decreases-View::to_value g l = 2 * weight (meaning l.self.now) + 1

abbrev pub invariant-Members::to_values-loop-view : goal.invariant-Members::to_values-loop-view
invariant-Members::to_values-loop-view g l =
    (goal.iterator-Members::to_values-loop-view g).can_next l.view-iterator ×
    (goal.iterator-Members::to_values-loop-view g).is_finite l.view-iterator ×
    (datas l.values.items ++ left l.view-iterator ≡ left l.self)

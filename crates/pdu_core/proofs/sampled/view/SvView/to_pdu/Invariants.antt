use Rattle.std.proofs.Common.{◌≡◌, ◌++◌}
use Rattle.pdu_core.specs.SampledViews.{asdus_left}
use Rattle.pdu_core.proofs.sampled.view.SvView.to_pdu.Given as goal

abbrev pub invariant-loop-view : goal.invariant-loop-view
invariant-loop-view g l =
    (goal.iterator-loop-view g).can_next l.view-iterator ×
    (goal.iterator-loop-view g).is_finite l.view-iterator ×
    (l.asdus.items ++ asdus_left l.view-iterator ≡ asdus_left l.self.asdus)

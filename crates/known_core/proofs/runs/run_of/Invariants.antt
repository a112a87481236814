use Rattle.std.proofs.Common.{◌≡◌, ◌-◌, ◌<◌, ◌≤◌, true, false, length, slice_index_or}
use Rattle.std.specs.declared.vec.Vec.{Vec}
use Rattle.known_core.specs.computed.Held.{in_run}
use Rattle.known_core.specs.computed.RunSteps.{begins_behind}
use Rattle.known_core.proofs.runs.run_of.Given as goal

abbrev pub invariant-loop-to : goal.invariant-loop-to
invariant-loop-to g l = record {
  within : l.to ≤ length l.runs;
  ordered : l.from ≤ l.to;
  parted : 0 < length l.runs → l.from < l.to;
  here : 0 < l.from → (d : Vec g.row.E.Denot g.row.A.Denot) → begins_behind (g.P.Probe.cmp l.probe) (in_run (slice_index_or l.runs l.from d)) ≡ false;
  next : l.to < length l.runs → (d : Vec g.row.E.Denot g.row.A.Denot) → begins_behind (g.P.Probe.cmp l.probe) (in_run (slice_index_or l.runs l.to d)) ≡ true;
}

abbrev pub decreases-loop-to : goal.decreases-loop-to
decreases-loop-to g l = l.to - l.from

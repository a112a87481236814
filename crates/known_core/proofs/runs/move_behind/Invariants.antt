use Rattle.std.proofs.Common.{◌≡◌, ◌++◌, vec_capacity}
use Rattle.std.specs.Vec.Iter.{DrainKeeps, drain_items}
use Rattle.known_core.proofs.runs.move_behind.Given as goal

abbrev pub invariant-loop-one : goal.invariant-loop-one
invariant-loop-one g l = record {
  goes : (goal.iterator-loop-one g).can_next l.one-iterator;
  ends : (goal.iterator-loop-one g).is_finite l.one-iterator;
  keeps : DrainKeeps l.initial.one-iterator l.one-iterator;
  parts : l.into.items ++ drain_items l.one-iterator ≡ l.initial.into.items ++ drain_items l.initial.one-iterator;
  room : vec_capacity l.into ≡ vec_capacity l.initial.into;
}

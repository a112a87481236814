use Rattle.std.proofs.Common.{◌≡◌, ◌≤◌, ◌-◌, drop, length}
use Rattle.unwrap_core.specs.Unwrapped.{unwrapped, unwrapped_within}
use Rattle.unwrap_core.proofs.unwrapping.take_each.Given as goal

-- what is left so far, with as many turns as are left, is what is left in the end
abbrev pub invariant-loop-turn : goal.invariant-loop-turn
invariant-loop-turn l = record {
  within : l.from ≤ length l.frame;
  len : length l.frame ≡ length l.initial.frame;
  left : unwrapped_within (length l.initial.frame - l.turn) (drop l.from l.frame) ≡ unwrapped l.initial.frame;
}

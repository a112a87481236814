use Rattle.std.proofs.Common.{ℕ, ◌<◌}
use Rattle.subscribe_core.specs.Apart.{IsTwice}
use Rattle.subscribe_core.proofs.twice.first_twice.Given as goal

-- none so far is one
abbrev pub invariant-loop-i : goal.invariant-loop-i
invariant-loop-i g l = (k : ℕ) → k < l.i → ¬ IsTwice l.blocks k

use Rattle.std.proofs.Common.{◌≡◌, ℕ, ◌<◌, Some, slice_get}
use Rattle.block_core.specs.declared.block.Block.{Block}
use Rattle.subscribe_core.specs.Apart.{HasNameOf}
use Rattle.subscribe_core.proofs.twice.is_twice.Given as goal

-- no block so far has the name
abbrev pub invariant-loop-j : goal.invariant-loop-j
invariant-loop-j g l = (k : ℕ) (a : Block _) → k < l.j → slice_get l.blocks k ≡ Some a → HasNameOf a l.block → ⊥

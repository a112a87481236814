use Rattle.std.proofs.Common.{◌≡◌, ℕ, ◌<◌, ◌≤◌, length, get_or}
use Rattle.subscribe_core.specs.computed.Deadlines.{AreLesserBut, half}
use Rattle.subscribe_core.proofs.deadlines.Deadlines.settle.Given as goal

-- all inner nodes but one are right, and no block's node changes
abbrev pub invariant-loop-node : goal.invariant-loop-node
invariant-loop-node g l =
    record {
      size : length l.self.nodes.items ≡ length l.initial.self.nodes.items;
      within : l.node < half l.initial.self.nodes.items;
      lesser : AreLesserBut l.initial.self.nodes.items l.from → AreLesserBut l.self.nodes.items l.node;
      blocks : (i : ℕ) → half l.initial.self.nodes.items ≤ i → get_or l.self.nodes.items i 0 ≡ get_or l.initial.self.nodes.items i 0;
    }

abbrev pub decreases-loop-node : goal.decreases-loop-node
decreases-loop-node g l = l.node

use Rattle.std.proofs.Common.{ℕ, ◌-◌, ◌<◌, get_or}
use Rattle.subscribe_core.specs.computed.Deadlines.{Covers, IsTree, half}
use Rattle.subscribe_core.proofs.Nodes.{IsBelow}
use Rattle.subscribe_core.proofs.deadlines.Deadlines.first_below.Given as goal

-- the first block that is due is below the node
abbrev pub invariant-loop-node : goal.invariant-loop-node
invariant-loop-node g l =
    record {
      some : 0 < l.node;
      below : (b k : ℕ) → IsTree l.self.nodes.items → Covers l.self.nodes.items l.initial.from b k → get_or l.self.nodes.items l.initial.from 0 < l.now → IsBelow l.self.nodes.items l.now b l.node;
    }

abbrev pub decreases-loop-node : goal.decreases-loop-node
decreases-loop-node g l = half l.self.nodes.items - l.node

use Rattle.std.proofs.Common.{◌*◌, ◌<◌}
use Rattle.subscribe_core.specs.computed.Deadlines.{half}
use Rattle.subscribe_core.proofs.Nodes.{IsPassed}
use Rattle.subscribe_core.proofs.deadlines.Deadlines.beside.Given as goal

-- behind the block nothing below the node is due
abbrev pub invariant-loop-node : goal.invariant-loop-node
invariant-loop-node g l =
    record {
      within : l.node < 2 * half l.self.nodes.items;
      passed : IsPassed l.self.nodes.items l.now l.at l.node;
    }

abbrev pub decreases-loop-node : goal.decreases-loop-node
decreases-loop-node g l = l.node

use Rattle.std.proofs.Common.{◌≡◌, ◌*◌, ◌<◌, ◌≤◌, ℕ, arith, get_or, subst}
use Rattle.std.proofs.lemmas.List.{get_or_read}
use Rattle.subscribe_core.proofs.Nodes.{below_begins, below_ends, below_left, below_right}
use Rattle.subscribe_core.proofs.deadlines.Deadlines.first_below.Goals as goal

pub loop-node-init : goal.loop-node-init
loop-node-init g c = record { some = c.requires.some; below = λ b k tree covers due. below_begins c.args.self.now.nodes.items c.args.now c.args.from b k covers due }

pub loop-node-preserved-then-now-index : goal.loop-node-preserved-then-now-index
loop-node-preserved-then-now-index g c =
    let nodes = c.args.self.now.nodes.items in
    let node = c.loop-node.node in
    let turned : node * 2 ≡ 2 * node = omega arith in
    let read = get_or_read nodes (node * 2) c.index.result.now (omega arith) c.index.ensures 0 in
    record {
      some = omega arith;
      below = λ b k tree covers due.
          rw turned
          (below_right nodes c.args.now b node tree.lesser (c.loop-node.invariant.below b k tree covers due) (omega arith)
          (subst (λ (i : ℕ). c.args.now ≤ get_or nodes i 0) turned (omega arith)));
    }

pub loop-node-preserved : goal.loop-node-preserved
loop-node-preserved g c =
    let nodes = c.args.self.now.nodes.items in
    let node = c.loop-node.node in
    let turned : node * 2 ≡ 2 * node = omega arith in
    let read = get_or_read nodes (node * 2) c.index.result.now (omega arith) c.index.ensures 0 in
    record {
      some = omega arith;
      below = λ b k tree covers due.
          rw turned
          (below_left nodes c.args.now b node (c.loop-node.invariant.below b k tree covers due) (omega arith)
          (subst (λ (i : ℕ). get_or nodes i 0 < c.args.now) turned (omega arith)));
    }

pub returns : goal.returns
returns g c = λ b k tree covers due.
    below_ends c.args.self.now.nodes.items c.args.now b c.loop-node.node _ (c.loop-node.invariant.below b k tree covers due) (omega arith) (omega arith)

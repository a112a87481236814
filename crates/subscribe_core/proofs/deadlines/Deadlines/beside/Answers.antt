use Rattle.std.proofs.Common.{◌+◌, arith}
use Rattle.std.proofs.lemmas.List.{get_or_read}
use Rattle.subscribe_core.proofs.Nodes.{beside_found, passed_begins, passed_left, passed_right}
use Rattle.subscribe_core.proofs.deadlines.Deadlines.beside.Goals.{else-node-eq0-via-then-node-eq0+else-index-now, else-node-eq0-via-else-node-eq0}
use Rattle.subscribe_core.proofs.deadlines.Deadlines.beside.Goals as goal

pub loop-node-init : goal.loop-node-init
loop-node-init g c =
    record {
      within = omega (arith, c.requires.within);
      passed = passed_begins c.args.self.now.nodes.items c.args.now c.args.at _ c.requires.within (omega arith);
    }

pub returns-then-index-now-clause-found : goal.returns-then-index-now-clause-found
returns-then-index-now-clause-found g c =
    let power = c.requires.tree.power (omega (arith, c.requires.within)) in
    let read = get_or_read c.args.self.now.nodes.items (c.loop-node.node + 1) c.index.result.now (omega (arith, c.loop-node.invariant.within)) c.index.ensures 0 in
    beside_found power.0 c.args.self.now.nodes.items c.args.now c.args.at c.loop-node.node power.1 c.loop-node.invariant.passed c.loop-node-test.true c.if-node-eq0.true (omega arith)

pub loop-node-preserved : goal.loop-node-preserved
loop-node-preserved g c =
    let power = c.requires.tree.power (omega (arith, c.requires.within)) in
    record {
      within = omega (arith, c.loop-node.invariant.within);
      passed = elim c.else-node-eq0.branch [
        | else-node-eq0-via-then-node-eq0+else-index-now w ↦
            let read = get_or_read c.args.self.now.nodes.items (c.loop-node.node + 1) w.index.result.now (omega (arith, c.loop-node.invariant.within)) w.index.ensures 0 in
            passed_left power.0 c.args.self.now.nodes.items c.args.now c.args.at c.loop-node.node power.1 c.requires.tree.lesser c.loop-node.invariant.passed c.loop-node-test.true w.if-node-eq0.true (omega arith)
        | else-node-eq0-via-else-node-eq0 w ↦
            passed_right power.0 c.args.self.now.nodes.items c.args.now c.args.at c.loop-node.node power.1 c.loop-node.invariant.passed c.loop-node-test.true w.if-node-eq0.false
      ];
    }

use Rattle.std.proofs.Common.{arith}
use Rattle.std.proofs.lemmas.List.{get_or_read}
use Rattle.subscribe_core.proofs.Nodes.{all_over, covers_all}
use Rattle.subscribe_core.proofs.deadlines.Deadlines.first_due.Goals.{then-len-lt2-via-then-len-lt2, then-len-lt2-via-else-len-lt2+then-now-index}
use Rattle.subscribe_core.proofs.deadlines.Deadlines.first_due.Goals as goal

pub returns-then-len-lt2-clause-none : goal.returns-then-len-lt2-clause-none
returns-then-len-lt2-clause-none g c = λ p lt.
    elim c.then-len-lt2.branch [
      | then-len-lt2-via-then-len-lt2 w ↦ absurd (omega arith)
      | then-len-lt2-via-else-len-lt2+then-now-index w ↦
          let read = get_or_read c.args.self.now.nodes.items 1 w.index.result.now (omega arith) w.index.ensures 0 in
          all_over c.args.self.now.nodes.items c.args.now c.requires.tree (omega arith) p lt
    ]

pub returns-clause-found : goal.returns-clause-found
returns-clause-found g c =
    let read = get_or_read c.args.self.now.nodes.items 1 c.index.result.now (omega arith) c.index.ensures 0 in
    let covers = covers_all c.args.self.now.nodes.items c.requires.tree (omega arith) in
    c.first_below.ensures 0 covers.0 c.requires.tree covers.1 (omega arith)

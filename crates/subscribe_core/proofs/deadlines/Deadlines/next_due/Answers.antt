use Rattle.subscribe_core.proofs.Nodes.{covers_some, next_behind}
use Rattle.subscribe_core.proofs.deadlines.Deadlines.next_due.Goals as goal

pub first_below-requires : goal.first_below-requires
first_below-requires g c =
    let found = c.in-Some.ensures.found in
    record { some = covers_some c.args.self.now.nodes.items c.in-Some.node found.from found.width found.covers }

pub returns-in-Some-clause-found : goal.returns-in-Some-clause-found
returns-in-Some-clause-found g c =
    let found = c.in-Some.ensures.found in
    next_behind c.args.self.now.nodes.items c.args.now c.args.at c.in-Some.node _ found
    (c.first_below.ensures found.from found.width c.requires.tree found.covers found.due)

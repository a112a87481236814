use Rattle.subscribe_core.proofs.Nodes.{dead_from, lives_from}
use Rattle.subscribe_core.proofs.deadlines.Deadlines.take_due.Goals as goal

pub returns-in_default-clause-none : goal.returns-in_default-clause-none
returns-in_default-clause-none g c = λ held at keeps. lives_from c.args.self.now held at c.args.now keeps c.ranges.now.fits (λ lt. c.in_default.ensures.none at lt)

pub returns-clause-due : goal.returns-clause-due
returns-clause-due g c = λ held keeps.
    let found = c.in-Some.ensures.found in
    dead_from c.args.self.now held c.in-Some.at c.args.now keeps c.ranges.now.fits found.within found.due

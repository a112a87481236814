use Rattle.std.proofs.Common.{arith}
use Rattle.pdu_core.proofs.AsdusRead.{no_asdus}
use Rattle.pdu_core.proofs.sampled.view.AsdusIterator.next.Goals as goal

pub returns-then-self-clause-steps : goal.returns-then-self-clause-steps
returns-then-self-clause-steps c =
    let s = c.args.self.now in
    let none = no_asdus {A = Unit {0}} s.octets.now s.at s.end s.inside (omega (arith, c.if-self.true)) in
    ((none, none), tt)

use Rattle.std.proofs.lemmas.Result.{err_from_is_err_and}
use Rattle.pdu_core.proofs.AsdusRead.{counts_all, counts_on, counts_stop}
use Rattle.pdu_core.proofs.sampled.asdus.check_asdus.Goals as goal

pub returns-in_err-next-clause-fault : goal.returns-in_err-next-clause-fault
returns-in_err-next-clause-fault g c =
    let p = err_from_is_err_and c.from_residual.result c.from_residual.ensures.1 in
    rw (p.1, p.2) (counts_stop c.args.octets.now c.args.at c.args.end c.requires.inside c.asdus.place c.asdus.count c.asdus.written c.in_err-next.field-0.0 c.asdus-test.true c.in_err-next.ensures.fault c.asdus.invariant)

pub asdus-preserved : goal.asdus-preserved
asdus-preserved g c =
    counts_on c.args.octets.now c.args.at c.args.end c.requires.inside c.asdus.place c.in_ok-next.next c.asdus.count c.asdus.written c.in_ok-next.stands c.in_ok-next.ensures.found.0 c.asdus-test.true c.in_ok-next.ensures.next.0 c.in_ok-next.ensures.next.1 c.in_ok-next.ensures.found.1 c.in_ok-next.ensures.found.2 c.asdus.invariant

pub returns-clause-found : goal.returns-clause-found
returns-clause-found g c = counts_all c.args.octets.now c.args.at c.args.end c.requires.inside c.asdus.place c.asdus.count c.asdus.written c.asdus-test.false c.asdus.invariant

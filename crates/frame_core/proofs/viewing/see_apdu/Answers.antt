use Rattle.std.proofs.Common.{Ok, Err, arith}
use Rattle.frame_core.specs.Apdu.{in_goose, in_sampled}
use Rattle.pdu_core.proofs.Shown.{shown_fault, shown_found}
use Rattle.pdu_core.proofs.SvShown.{sv_shown_fault, sv_shown_found}
use Rattle.frame_core.proofs.viewing.see_apdu.Goals as goal

pub returns-in-Err-clause-fault : goal.returns-in-Err-clause-fault
returns-in-Err-clause-fault c =
    let r = c.requires in
    in_goose c.if-ether_type-eq-GOOSE.true (shown_fault (Unit {0}) c.args.octets.now c.args.from c.args.to r.ordered r.inside (Err c.in-Err.fault) c.in-Err.ensures.exact)

pub returns-in-Ok-clause-found : goal.returns-in-Ok-clause-found
returns-in-Ok-clause-found c =
    let r = c.requires in
    shown_found (Unit {0}) c.args.octets.now c.args.from c.args.to r.ordered r.inside (Ok c.in-Ok.view) c.in-Ok.ensures.exact

pub returns-in-Err-see_sv-clause-fault : goal.returns-in-Err-see_sv-clause-fault
returns-in-Err-see_sv-clause-fault c =
    let r = c.requires in
    in_sampled (omega arith) (sv_shown_fault c.args.octets.now c.args.from c.args.to r.ordered r.inside (Unit {0}) (Err c.in-Err-see_sv.fault) c.in-Err-see_sv.ensures.exact)

pub returns-in-Ok-see_sv-clause-found : goal.returns-in-Ok-see_sv-clause-found
returns-in-Ok-see_sv-clause-found c =
    let r = c.requires in
    sv_shown_found c.args.octets.now c.args.from c.args.to r.ordered r.inside (Unit {0}) (Ok c.in-Ok-see_sv.view) c.in-Ok-see_sv.ensures.exact

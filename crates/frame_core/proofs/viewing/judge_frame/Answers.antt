use Rattle.std.proofs.Common.{rules}
use Rattle.std.proofs.lemmas.Result.{err_from_is_err_and}
use Rattle.frame_core.proofs.EnvelopeLaws.{wrong}
use Rattle.frame_core.proofs.Seen.{seen_fault, seen_found}
use Rattle.frame_core.proofs.viewing.judge_frame.Goals as goal

pub returns-in_err-places-clause-fault : goal.returns-in_err-places-clause-fault
returns-in_err-places-clause-fault c =
    let p = err_from_is_err_and c.from_residual.result c.from_residual.ensures.1 in
    rw (p.1, p.2) (wrong c.args.octets.now c.in_err-places.field-0.0 c.in_err-places.ensures.exact)

pub returns-in-Err-clause-fault : goal.returns-in-Err-clause-fault
returns-in-Err-clause-fault c =
    let places = c.in_ok-places.places in
    let found = c.in_ok-places.ensures in
    seen_fault c.args.octets.now places.ether_type places.apdu_to _ found.ether_type found.apdu c.word-ether_type.ensures c.in-Err.fault found.exact c.in-Err.ensures.fault

pub returns-in-Ok-clause-found : goal.returns-in-Ok-clause-found
returns-in-Ok-clause-found c =
    let places = c.in_ok-places.places in
    let found = c.in_ok-places.ensures in
    seen_found c.args.octets.now places.ether_type places.apdu_to _ found.ether_type found.apdu c.word-ether_type.ensures _ found.exact c.in-Ok.ensures.announced c.in-Ok.ensures.found
    _ c.address_at.ensures _ c.address_at-in-Ok.ensures _ c.tag.ensures _ c.word.ensures _ c.word-in-Ok.ensures _ c.word-in-Ok-2.ensures _ (search rules)

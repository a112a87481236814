use Rattle.std.proofs.Common.{Ok, ap, sym, ◌∙◌}
use Rattle.mms_data.specs.declared.time.UtcTime.{UtcTime}
use Rattle.pdu_core.specs.Contents.{a_time, time}
use Rattle.pdu_core.proofs.KnownItems.{field_known_if, item_known_if, time_known}
use Rattle.pdu_core.proofs.sampled.known.known_time_if.Goals as goal

pub time_of-time-requires : goal.time_of-time-requires
time_of-time-requires c =
    let h = c.in-Some.header in
    (time_known c.args.octets.now h (item_known_if c.args.octets.now c.args.at c.args.end c.args.identifier time h c.in-Some.ensures.exact c.requires.known)).0

pub returns-in-Some-clause-exact : goal.returns-in-Some-clause-exact
returns-in-Some-clause-exact c =
    let h = c.in-Some.header in
    let r = time_known c.args.octets.now h (item_known_if c.args.octets.now c.args.at c.args.end c.args.identifier time h c.in-Some.ensures.exact c.requires.known) in
    field_known_if c.args.octets.now c.args.at c.args.end c.args.identifier time h (a_time c.time_of-time.result) c.in-Some.ensures.exact (r.1 ∙ ap (λ (t : UtcTime). Ok (a_time t)) (sym c.time_of-time.ensures))

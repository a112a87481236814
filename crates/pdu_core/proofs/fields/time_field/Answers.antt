use Rattle.std.proofs.Common.{sym, rules}
use Rattle.ber_core.specs.Element.{contents_of}
use Rattle.ber_core.specs.Length.{AreOctets}
use Rattle.mms_data.proofs.AsWritten.{slice_octets, time_one}
use Rattle.pdu_core.specs.Contents.{a_time}
use Rattle.pdu_core.specs.Written.{written_item}
use Rattle.pdu_core.proofs.Standing.{field_stands}
use Rattle.pdu_core.proofs.fields.time_field.Goals as goal

pub returns-clause-stands : goal.returns-clause-stands
returns-clause-stands c =
    let o = c.args.octets.now in
    let small : AreOctets o = λ i. search rules in
    let e = c.in_ok-header.ensures in
    let h = c.in_ok-header.header in
    let same = sym (time_one c.in_ok-time.time (contents_of o h) (slice_octets o h.contents_from h.contents_to small) c.in_ok-time.ensures.found) in
    field_stands o c.args.at c.args.end c.args.identifier h (written_item (a_time c.in_ok-time.time)) small c.requires.inside e.found e.places c.args.written c.has_short_length.result c.has_short_length.ensures same

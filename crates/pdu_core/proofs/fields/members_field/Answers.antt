use Rattle.std.proofs.Common.{rules}
use Rattle.ber_core.specs.Length.{AreOctets}
use Rattle.mms_data.specs.Meaning.{left}
use Rattle.pdu_core.specs.Contents.{some_members}
use Rattle.pdu_core.specs.Written.{written_item}
use Rattle.pdu_core.proofs.Standing.{field_stands_if}
use Rattle.pdu_core.proofs.fields.members_field.Goals as goal

pub returns-clause-stands : goal.returns-clause-stands
returns-clause-stands g c =
    let o = c.args.octets.now in
    let small : AreOctets o = λ i. search rules in
    let e = c.in_ok-header.ensures in
    field_stands_if o c.args.at c.args.end c.args.identifier c.in_ok-header.header (written_item (some_members (left c.in_ok-entries.entries.members))) small c.requires.inside e.found e.places c.args.written
    c.has_short_length.result c.has_short_length.ensures c.in_ok-entries.entries.written c.in_ok-entries.ensures.written

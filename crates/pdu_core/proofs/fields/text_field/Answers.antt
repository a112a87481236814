use Rattle.std.proofs.Common.{rules, arith}
use Rattle.ber_core.specs.Length.{AreOctets}
use Rattle.pdu_core.specs.Contents.{a_text}
use Rattle.pdu_core.proofs.Items.{part_of_contents}
use Rattle.pdu_core.specs.Written.{written_item}
use Rattle.pdu_core.proofs.Standing.{field_stands}
use Rattle.pdu_core.proofs.fields.text_field.Goals as goal

pub returns-clause-part : goal.returns-clause-part
returns-clause-part c =
    let p = c.in_ok-header.ensures.places in
    part_of_contents c.in_ok-text.text c.args.octets c.in_ok-header.header p.order (omega (arith, p.within, c.requires.inside)) c.in_ok-text.ensures.part

pub returns-clause-stands : goal.returns-clause-stands
returns-clause-stands c =
    let o = c.args.octets.now in
    let small : AreOctets o = λ i. search rules in
    let e = c.in_ok-header.ensures in
    field_stands o c.args.at c.args.end c.args.identifier c.in_ok-header.header (written_item (a_text c.in_ok-text.text.now)) small c.requires.inside e.found e.places c.args.written c.has_short_length.result c.has_short_length.ensures
    c.in_ok-text.ensures.found.0

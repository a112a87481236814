use Rattle.std.proofs.Common.{rules, arith}
use Rattle.ber_core.specs.Fields.{IsField}
use Rattle.ber_core.specs.Length.{AreOctets}
use Rattle.ber_core.specs.computed.Reading.{IsWithin}
use Rattle.pdu_core.specs.Contents.{a_text}
use Rattle.pdu_core.proofs.Items.{part_of_contents}
use Rattle.pdu_core.specs.Written.{written_item}
use Rattle.pdu_core.proofs.Standing.{field_stands}
use Rattle.pdu_core.proofs.fields.text_if_there.Goals as goal

pub returns-in_ok-text-in-Some-clause-part : goal.returns-in_ok-text-in-Some-clause-part
returns-in_ok-text-in-Some-clause-part c =
    let p : IsWithin c.args.at c.args.end c.in-Some.header = rw c.in-Some.is at c.in_ok-header.ensures.places in
    part_of_contents c.in_ok-text-in-Some.text c.args.octets c.in-Some.header p.order (omega (arith, p.within, c.requires.inside)) c.in_ok-text-in-Some.ensures.part

pub returns-in_ok-text-in-Some-clause-stands : goal.returns-in_ok-text-in-Some-clause-stands
returns-in_ok-text-in-Some-clause-stands c =
    let o = c.args.octets.now in
    let small : AreOctets o = λ i. search rules in
    let p : IsWithin c.args.at c.args.end c.in-Some.header = rw c.in-Some.is at c.in_ok-header.ensures.places in
    let f : IsField c.args.identifier o c.args.at c.args.end c.in-Some.header = rw c.in-Some.is at c.in_ok-header.ensures.found in
    field_stands o c.args.at c.args.end c.args.identifier c.in-Some.header (written_item (a_text c.in_ok-text-in-Some.text.now)) small c.requires.inside f p c.args.written c.has_short_length.result c.has_short_length.ensures
    c.in_ok-text-in-Some.ensures.found.0

use Rattle.std.proofs.Common.{pos, sym, rules}
use Rattle.ber_core.specs.Length.{AreOctets}
use Rattle.pdu_core.specs.Contents.{a_number}
use Rattle.pdu_core.proofs.Items.{number_found}
use Rattle.pdu_core.specs.Written.{written_item}
use Rattle.pdu_core.proofs.Standing.{field_stands_if}
use Rattle.pdu_core.proofs.fields.any_number_field.Goals as goal

pub returns-clause-stands : goal.returns-clause-stands
returns-clause-stands c =
    let o = c.args.octets.now in
    let small : AreOctets o = λ i. search rules in
    let e = c.in_ok-header.ensures in
    let spelled = number_found o c.in_ok-header.header c.in_ok-number.number (sym c.in_ok-number.ensures) in
    field_stands_if o c.args.at c.args.end c.args.identifier c.in_ok-header.header (written_item (a_number c.in_ok-number.number)) small c.requires.inside e.found e.places c.args.written c.has_short_length.result c.has_short_length.ensures
    c.is_short-short.result (λ t. c.is_short-short.ensures t (pos c.in_ok-number.number) spelled.2)

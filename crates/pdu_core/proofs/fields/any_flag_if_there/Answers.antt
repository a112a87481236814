use Rattle.std.proofs.Common.{rules}
use Rattle.ber_core.specs.Fields.{IsField}
use Rattle.ber_core.specs.Length.{AreOctets}
use Rattle.ber_core.specs.computed.Reading.{IsWithin}
use Rattle.pdu_core.specs.Contents.{a_flag}
use Rattle.pdu_core.specs.Written.{written_item}
use Rattle.pdu_core.proofs.Standing.{field_stands_if}
use Rattle.pdu_core.proofs.fields.any_flag_if_there.Goals as goal

pub returns-in_ok-flag-in-Some-clause-stands : goal.returns-in_ok-flag-in-Some-clause-stands
returns-in_ok-flag-in-Some-clause-stands c =
    let o = c.args.octets.now in
    let small : AreOctets o = λ i. search rules in
    let p : IsWithin c.args.at c.args.end c.in-Some.header = rw c.in-Some.is at c.in_ok-header.ensures.places in
    let f : IsField c.args.identifier o c.args.at c.args.end c.in-Some.header = rw c.in-Some.is at c.in_ok-header.ensures.found in
    field_stands_if o c.args.at c.args.end c.args.identifier c.in-Some.header (written_item (a_flag c.in_ok-flag-in-Some.flag)) small c.requires.inside f p c.args.written c.has_short_length.result c.has_short_length.ensures
    c.is_boolean_written-is_written.result (λ t. c.is_boolean_written-is_written.ensures t c.in_ok-flag-in-Some.flag c.in_ok-flag-in-Some.ensures.found)

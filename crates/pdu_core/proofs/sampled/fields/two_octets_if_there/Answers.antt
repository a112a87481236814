use Rattle.std.proofs.Common.{rules, ap, sym, ◌∙◌}
use Rattle.byteorder.specs.Endian.{big_bytes, big_number}
use Rattle.ber_core.specs.Element.{contents_of}
use Rattle.ber_core.specs.Fields.{IsField}
use Rattle.ber_core.specs.Length.{AreOctets}
use Rattle.ber_core.specs.computed.Reading.{IsWithin}
use Rattle.mms_data.proofs.AsWritten.{slice_octets}
use Rattle.pdu_core.proofs.Standing.{field_stands, fixed_counted, fixed_one}
use Rattle.pdu_core.proofs.sampled.fields.two_octets_if_there.Goals as goal

pub returns-in_ok-number-in-Some-clause-stands : goal.returns-in_ok-number-in-Some-clause-stands
returns-in_ok-number-in-Some-clause-stands c =
    let o = c.args.octets.now in
    let small : AreOctets o = λ i. search rules in
    let h = c.in-Some.header in
    let p : IsWithin c.args.at c.args.end h = rw c.in-Some.is at c.in_ok-header.ensures.places in
    let f : IsField c.args.identifier o c.args.at c.args.end h = rw c.in-Some.is at c.in_ok-header.ensures.found in
    let n = c.in_ok-number-in-Some.number.now in
    let same = fixed_one 2 (big_number 2 n) (contents_of o h) (slice_octets o h.contents_from h.contents_to small) (fixed_counted 2 (contents_of o h) n c.in_ok-number-in-Some.ensures.found) in
    field_stands o c.args.at c.args.end c.args.identifier h (big_bytes 2 c.read_u16.result) small c.requires.inside f p c.args.written c.has_short_length.result c.has_short_length.ensures (same ∙ ap (big_bytes 2) (sym c.read_u16.ensures))

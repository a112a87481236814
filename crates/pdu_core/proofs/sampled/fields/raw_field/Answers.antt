use Rattle.std.proofs.Common.{rules, refl}
use Rattle.ber_core.specs.Element.{contents_of}
use Rattle.ber_core.specs.Length.{AreOctets}
use Rattle.pdu_core.proofs.Standing.{field_stands}
use Rattle.pdu_core.proofs.sampled.fields.raw_field.Goals as goal

pub returns-clause-stands : goal.returns-clause-stands
returns-clause-stands c =
    let o = c.args.octets.now in
    let small : AreOctets o = λ i. search rules in
    let e = c.in_ok-header.ensures in
    let h = c.in_ok-header.header in
    field_stands o c.args.at c.args.end c.args.identifier h (contents_of o h) small c.requires.inside e.found e.places c.args.written c.has_short_length.result c.has_short_length.ensures refl

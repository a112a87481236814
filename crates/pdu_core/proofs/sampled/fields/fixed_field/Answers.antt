use Rattle.std.proofs.Common.{◌+◌, rules, refl}
use Rattle.byteorder.specs.Endian.{big_bytes, big_number}
use Rattle.ber_core.specs.Element.{contents_of}
use Rattle.ber_core.specs.Length.{AreOctets}
use Rattle.mms_data.proofs.AsWritten.{slice_octets}
use Rattle.pdu_core.proofs.Standing.{field_stands, fixed_counted, fixed_one}
use Rattle.pdu_core.proofs.ShortFields.{fixed_read, fixed_stands}
use Rattle.pdu_core.proofs.sampled.fields.fixed_field.Goals as goal

pub returns-in-Some-clause-exact : goal.returns-in-Some-clause-exact
returns-in-Some-clause-exact g c =
    let s = c.in-Some in
    let r = c.requires in
    fixed_read c.args.octets.now c.args.at c.args.end c.args.identifier g.row.N s.number.now (big_number g.row.N s.number.now) r.ordered r.inside r.identifier r.few s.ensures.size refl s.ensures.next s.ensures.there (c.args.at + 2 + g.row.N) refl

pub returns-in-Some-clause-stands : goal.returns-in-Some-clause-stands
returns-in-Some-clause-stands g c = λ told.
    let s = c.in-Some in
    let r = c.requires in
    let octets : AreOctets c.args.octets.now = λ i. search rules in
    (told, fixed_stands c.args.octets.now c.args.at c.args.end c.args.identifier g.row.N s.number.now (big_number g.row.N s.number.now) r.ordered r.inside r.identifier r.few s.ensures.size refl s.ensures.next s.ensures.there (c.args.at + 2 + g.row.N) refl octets)

pub returns-in_ok-number-in-None-clause-stands : goal.returns-in_ok-number-in-None-clause-stands
returns-in_ok-number-in-None-clause-stands g c =
    let o = c.args.octets.now in
    let small : AreOctets o = λ i. search rules in
    let e = c.in_ok-header-in-None.ensures in
    let h = c.in_ok-header-in-None.header in
    let n = c.in_ok-number-in-None.number.now in
    let same = fixed_one g.row.N (big_number g.row.N n) (contents_of o h) (slice_octets o h.contents_from h.contents_to small) (fixed_counted g.row.N (contents_of o h) n c.in_ok-number-in-None.ensures.found) in
    field_stands o c.args.at c.args.end c.args.identifier h (big_bytes g.row.N (big_number g.row.N n)) small c.requires.inside e.found e.places c.args.written c.has_short_length.result c.has_short_length.ensures same

use Rattle.std.proofs.Common.{rules}
use Rattle.ber_core.specs.Length.{AreOctets}
use Rattle.pdu_core.specs.SampledViews.{asdus_left}
use Rattle.pdu_core.specs.SampledWritten.{written_asdus}
use Rattle.pdu_core.proofs.Standing.{field_stands_if}
use Rattle.pdu_core.proofs.sampled.viewing.asdus_field.Goals as goal

pub returns-clause-stands : goal.returns-clause-stands
returns-clause-stands g c =
    let o = c.args.octets.now in
    let small : AreOctets o = λ i. search rules in
    let e = c.in_ok-header.ensures in
    field_stands_if o c.args.at c.args.end c.args.identifier c.in_ok-header.header (written_asdus (asdus_left {A = Unit {0}} c.in_ok-asdus.asdus.asdus)) small c.requires.inside e.found e.places c.args.written
    c.has_short_length.result c.has_short_length.ensures c.in_ok-asdus.asdus.written c.in_ok-asdus.ensures.written

use Rattle.std.proofs.Common.{pos, sym, rules}
use Rattle.ber_core.specs.Length.{AreOctets}
use Rattle.ber_core.specs.Written.{short_integer}
use Rattle.pdu_core.proofs.SampledItems.{count_found}
use Rattle.pdu_core.proofs.Standing.{field_stands_if}
use Rattle.pdu_core.proofs.sampled.viewing.count_field.Goals as goal

pub returns-clause-stands : goal.returns-clause-stands
returns-clause-stands c =
    let o = c.args.octets.now in
    let small : AreOctets o = λ i. search rules in
    let e = c.in_ok-header.ensures in
    let n = c.in_ok-count.count in
    let spelled = count_found o c.in_ok-header.header n (sym c.in_ok-count.ensures) in
    field_stands_if o c.args.at c.args.end c.args.identifier c.in_ok-header.header (short_integer (pos n)) small c.requires.inside e.found e.places c.args.written c.has_short_length.result c.has_short_length.ensures
    c.is_short-short.result (λ t. c.is_short-short.ensures t (pos n) spelled.2)

use Rattle.ber_core.specs.Element.{contents_of}
use Rattle.pdu_core.specs.Contents.{few, some_octets}
use Rattle.pdu_core.proofs.KnownItems.{few_known, field_known_if, item_known_if}
use Rattle.pdu_core.proofs.sampled.known.known_few_if.Goals as goal

pub returns-in-Some-clause-exact : goal.returns-in-Some-clause-exact
returns-in-Some-clause-exact c =
    let h = c.in-Some.header in
    field_known_if c.args.octets.now c.args.at c.args.end c.args.identifier few h (some_octets (contents_of c.args.octets.now h)) c.in-Some.ensures.exact
    (few_known c.args.octets.now h (item_known_if c.args.octets.now c.args.at c.args.end c.args.identifier few h c.in-Some.ensures.exact c.requires.known))

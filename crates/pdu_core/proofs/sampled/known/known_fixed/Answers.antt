use Rattle.pdu_core.specs.Contents.{fixed}
use Rattle.pdu_core.proofs.KnownItems.{field_known, fixed_known, item_known}
use Rattle.pdu_core.proofs.sampled.known.known_fixed.Goals as goal

pub returns-clause-exact : goal.returns-clause-exact
returns-clause-exact g c =
    let h = c.known_required-header in
    let r = fixed_known g.row.N c.args.octets.now h.result (item_known c.args.octets.now c.args.at c.args.end c.args.identifier (fixed g.row.N) h.result h.ensures.exact c.requires.known) in
    field_known c.args.octets.now c.args.at c.args.end c.args.identifier (fixed g.row.N) h.result _ h.ensures.exact r.1

pub returns-clause-size : goal.returns-clause-size
returns-clause-size g c =
    let h = c.known_required-header in
    (fixed_known g.row.N c.args.octets.now h.result (item_known c.args.octets.now c.args.at c.args.end c.args.identifier (fixed g.row.N) h.result h.ensures.exact c.requires.known)).0

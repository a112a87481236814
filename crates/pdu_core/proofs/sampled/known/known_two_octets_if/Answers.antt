use Rattle.std.proofs.Common.{Ok, ap, sym, ◌∙◌, arith}
use Rattle.pdu_core.specs.Contents.{a_fixed, fixed}
use Rattle.pdu_core.proofs.KnownItems.{field_known_if, fixed_known, item_known_if}
use Rattle.pdu_core.proofs.sampled.known.known_two_octets_if.Goals as goal

pub read_u16-number-requires : goal.read_u16-number-requires
read_u16-number-requires c =
    let h = c.in-Some.header in
    let r = fixed_known 2 c.args.octets.now h (item_known_if c.args.octets.now c.args.at c.args.end c.args.identifier (fixed 2) h c.in-Some.ensures.exact c.requires.known) in
    omega (arith, r.0)

pub returns-in-Some-clause-exact : goal.returns-in-Some-clause-exact
returns-in-Some-clause-exact c =
    let h = c.in-Some.header in
    let r = fixed_known 2 c.args.octets.now h (item_known_if c.args.octets.now c.args.at c.args.end c.args.identifier (fixed 2) h c.in-Some.ensures.exact c.requires.known) in
    field_known_if c.args.octets.now c.args.at c.args.end c.args.identifier (fixed 2) h (a_fixed 2 c.read_u16-number.result) c.in-Some.ensures.exact (r.1 ∙ ap (λ n. Ok (a_fixed 2 n)) (sym c.read_u16-number.ensures))

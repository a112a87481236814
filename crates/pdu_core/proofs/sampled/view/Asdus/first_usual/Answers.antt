use Rattle.std.proofs.Common.{◌∷◌, ap, ◌∙◌, arith}
use Rattle.pdu_core.specs.computed.SampledValue.{asdus_in}
use Rattle.pdu_core.specs.SampledViews.{asdu_of}
use Rattle.pdu_core.proofs.AsdusRead.{first_is_read, first_and_rest}
use Rattle.pdu_core.proofs.SvValues.{asdu_back}
use Rattle.pdu_core.proofs.sampled.view.Asdus.first_usual.Goals as goal

pub known_usual-requires-clause-known : goal.known_usual-requires-clause-known
known_usual-requires-clause-known c = let s = c.args.self in first_is_read s.octets.now s.at s.end s.inside (omega (arith, s.ordered, c.if-self-end.false)) s.spelled

pub invariant_of-result : goal.invariant_of-result
invariant_of-result c =
    let s = c.args.self in
    let u = c.in_ok-view in
    record { ordered = u.ensures.next.1; inside = s.inside; spelled = (first_and_rest s.octets.now s.at s.end s.inside (omega (arith, s.ordered, c.if-self-end.false)) s.spelled {A = Unit {0}} _ u.at u.ensures.exact).0 }

pub returns : goal.returns
returns c =
    let s = c.args.self in
    let u = c.in_ok-view in
    (first_and_rest s.octets.now s.at s.end s.inside (omega (arith, s.ordered, c.if-self-end.false)) s.spelled _ u.at u.ensures.exact).1 ∙ ap (λ a. a ∷ asdus_in s.octets.now u.at s.end) (asdu_back (asdu_of u.view))

use Rattle.std.proofs.Common.{◌∷◌, ap, ◌∙◌}
use Rattle.pdu_core.specs.computed.SampledValue.{asdus_in}
use Rattle.pdu_core.specs.SampledViews.{asdu_of}
use Rattle.pdu_core.proofs.AsdusRead.{first_is_read, first_and_rest}
use Rattle.pdu_core.proofs.SvValues.{asdu_back}
use Rattle.pdu_core.proofs.sampled.view.Asdus.split.Goals as goal

pub known_asdu-at-requires-clause-known : goal.known_asdu-at-requires-clause-known
known_asdu-at-requires-clause-known c = let s = c.args.self in first_is_read s.octets.now s.at s.end s.inside c.requires s.spelled

pub invariant_of-result : goal.invariant_of-result
invariant_of-result c =
    let s = c.args.self in
    record { ordered = c.known_asdu-at.ensures.next.1; inside = s.inside; spelled = (first_and_rest s.octets.now s.at s.end s.inside c.requires s.spelled {A = Unit {0}} _ c.known_asdu-at.result.1 c.known_asdu-at.ensures.exact).0 }

pub returns-clause-first : goal.returns-clause-first
returns-clause-first c =
    let s = c.args.self in
    (first_and_rest s.octets.now s.at s.end s.inside c.requires s.spelled _ c.known_asdu-at.result.1 c.known_asdu-at.ensures.exact).1 ∙ ap (λ a. a ∷ asdus_in s.octets.now c.known_asdu-at.result.1 s.end) (asdu_back (asdu_of c.known_asdu-at.result.0))

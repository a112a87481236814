use Rattle.std.proofs.Common.{Ok, length, ap, sym, ◌∙◌}
use Rattle.pdu_core.specs.Sampled.{items_of_each}
use Rattle.pdu_core.specs.SampledWritten.{written_asdus}
use Rattle.pdu_core.proofs.SvValues.{asdus_are}
use Rattle.pdu_core.proofs.sampled.viewing.asdus_from.Goals as goal

pub returns-clause-exact : goal.returns-clause-exact
returns-clause-exact g c =
    let s = c.in_ok-count.ensures.found in
    let these = c.new.ensures.these ∙ asdus_are c.args.octets.now c.args.at c.args.end s.0 s.1 in
    s.1 ∙ ap (λ x. Ok (items_of_each x)) (sym these)

pub returns-clause-count : goal.returns-clause-count
returns-clause-count g c =
    let s = c.in_ok-count.ensures.found in
    let these = c.new.ensures.these ∙ asdus_are c.args.octets.now c.args.at c.args.end s.0 s.1 in
    sym s.2 ∙ ap length (sym these)

pub returns-clause-written : goal.returns-clause-written
returns-clause-written g c = λ t.
    let s = c.in_ok-count.ensures.found in
    let these = c.new.ensures.these ∙ asdus_are c.args.octets.now c.args.at c.args.end s.0 s.1 in
    s.3 t ∙ ap written_asdus (sym these)

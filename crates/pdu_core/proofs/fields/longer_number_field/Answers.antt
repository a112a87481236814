use Rattle.std.proofs.Common.{◌≡◌, ℕ, ◌<◌, ◌+◌, List, ◌∷◌, get_or, ap, sym, ◌∙◌, Ok, Some, arith, rules}
use Rattle.std.specs.Prelude.{slice_range}
use Rattle.std.proofs.lemmas.Bool.{and_parts}
use Rattle.ber_core.specs.Length.{AreOctets}
use Rattle.pdu_core.specs.Contents.{a_number}
use Rattle.pdu_core.proofs.ShortFields.{pair_of, pair_read, pair_stands}
use Rattle.pdu_core.proofs.fields.longer_number_field.Goals as goal

pub returns-in-Some-0-to-127-clause-exact : goal.returns-in-Some-0-to-127-clause-exact
returns-in-Some-0-to-127-clause-exact c =
    let s = c.in-Some-0-to-127 in
    let two = s.field-0.now in
    let small : get_or two 0 0 < 128 = omega arith in
    let octets : AreOctets c.args.octets.now = λ i. search rules in
    let to : c.args.at + 4 ≡ c.args.at + 2 + 2 = omega arith in
    let there = ap (slice_range c.args.octets.now c.args.at) to ∙ s.ensures.there ∙ ap (λ (l : List ℕ). c.args.identifier ∷ 2 ∷ l) (pair_of two s.ensures.size) in
    pair_read c.args.octets.now c.args.at c.args.end c.args.identifier (get_or two 0 0) (get_or two 1 0) c.requires.ordered c.requires.inside c.requires.identifier (omega (arith, s.ensures.next)) there small octets
    ∙ ap (λ n. Ok (Some (a_number n), c.args.at + 4)) (sym c.number_of.ensures)

pub returns-in-Some-0-to-127-clause-stands : goal.returns-in-Some-0-to-127-clause-stands
returns-in-Some-0-to-127-clause-stands c = λ told.
    let s = c.in-Some-0-to-127 in
    let two = s.field-0.now in
    let small : get_or two 0 0 < 128 = omega arith in
    let octets : AreOctets c.args.octets.now = λ i. search rules in
    let to : c.args.at + 4 ≡ c.args.at + 2 + 2 = omega arith in
    let there = ap (slice_range c.args.octets.now c.args.at) to ∙ s.ensures.there ∙ ap (λ (l : List ℕ). c.args.identifier ∷ 2 ∷ l) (pair_of two s.ensures.size) in
    let both = and_parts _ _ told in
    (both.0, rw c.number_of.ensures (pair_stands c.args.octets.now c.args.at c.args.end c.args.identifier (get_or two 0 0) (get_or two 1 0) c.requires.ordered c.requires.inside c.requires.identifier (omega (arith, s.ensures.next)) there small octets (c.is_short-short.ensures both.1)))

use Rattle.std.proofs.Common.{◌≡◌, ◌∷◌, ℕ, drop, get_or, ap, ◌∙◌, arith}
use Rattle.std.specs.Prelude.{slice_range}
use Rattle.std.proofs.lemmas.List.{length-drop}
use Rattle.pdu_core.proofs.UsualFields.{short_required, short_stands, two_front}
use Rattle.pdu_core.proofs.sampled.usual.short_element.Goals as goal

pub returns-in-len2-up-clause-exact : goal.returns-in-len2-up-clause-exact
returns-in-len2-up-clause-exact c =
    let s = slice_range c.args.octets.now c.args.at c.args.end in
    let parts : s ≡ c.args.identifier ∷ get_or s 1 0 ∷ drop 2 s = two_front s c.in-len2-up.len_at_least ∙ ap (λ (x : ℕ). x ∷ get_or s 1 0 ∷ drop 2 s) c.if-first-identifier.true in
    short_required c.args.octets.now c.args.at c.args.end c.args.identifier (get_or s 1 0) (drop 2 s) c.requires.ordered c.requires.inside c.requires.identifier c.if-size-lt128.true
    (omega (arith, length-drop 2 s, c.if-size-rest.true)) parts

pub returns-in-len2-up-clause-written : goal.returns-in-len2-up-clause-written
returns-in-len2-up-clause-written c =
    let s = slice_range c.args.octets.now c.args.at c.args.end in
    let parts : s ≡ c.args.identifier ∷ get_or s 1 0 ∷ drop 2 s = two_front s c.in-len2-up.len_at_least ∙ ap (λ (x : ℕ). x ∷ get_or s 1 0 ∷ drop 2 s) c.if-first-identifier.true in
    short_stands c.args.octets.now c.args.at c.args.end c.args.identifier (get_or s 1 0) (drop 2 s) c.requires.ordered c.requires.inside c.requires.identifier c.if-size-lt128.true
    (omega (arith, length-drop 2 s, c.if-size-rest.true)) parts

use Rattle.std.proofs.Common.{not, sym, ap, rules, ◌∙◌, arith}
use Rattle.std.proofs.lemmas.Bool.{eq-eqb, false≢true}
use Rattle.ber_core.specs.Length.{AreOctets}
use Rattle.mms_data.proofs.ShortIntegers.{short_is}
use Rattle.mms_data.proofs.standing.is_short.Goals as goal

pub returns-in_default : goal.returns-in_default
returns-in_default c = λ t n h.
    let small : AreOctets c.args.contents.now = λ i. search rules in
    short_is c.args.contents.now small (λ some. absurd (omega (arith, some, c.in_default.len_below))) n h

pub returns-in-len2-up : goal.returns-in-len2-up
returns-in-len2-up c = λ t n h.
    let small : AreOctets c.args.contents.now = λ i. search rules in
    short_is c.args.contents.now small (λ some e. false≢true (sym (ap not (eq-eqb _ _ (e ∙ sym c.sign.ensures))) ∙ t)) n h

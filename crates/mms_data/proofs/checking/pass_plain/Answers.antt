use Rattle.std.proofs.Common.{◌≡◌, ◌+◌, ◌++◌, ◌∙◌, ◌∷◌, ℕ, List, length, drop, rules, arith, ap, sym, subst}
use Rattle.std.specs.Prelude.{slice_range}
use Rattle.std.proofs.lemmas.Bool.{and_parts}
use Rattle.ber_core.specs.Length.{AreOctets}
use Rattle.ber_core.proofs.Regions.{region-drop, region-split}
use Rattle.mms_data.specs.Contents.{SpellsSimple}
use Rattle.mms_data.specs.Kinds.{simple_identifier}
use Rattle.mms_data.specs.computed.Reading.{member_at}
use Rattle.mms_data.proofs.Booleans.{boolean_passed, boolean_stands}
use Rattle.mms_data.proofs.PlainMembers.{plain_passed, plain_stands}
use Rattle.mms_data.proofs.checking.pass_plain.Goals as goal

pub returns-in-Some-clause-exact : goal.returns-in-Some-clause-exact
returns-in-Some-clause-exact g c = λ depth some.
    boolean_passed depth c.args.at c.args.octets.now c.args.end c.in-Some.octet some c.requires.three c.in-Some.ensures

pub returns-in-Some-clause-written : goal.returns-in-Some-clause-written
returns-in-Some-clause-written g c = λ both depth some.
    boolean_stands depth c.args.at c.args.octets.now c.args.end c.in-Some.octet some c.requires.three c.in-Some.ensures (c.is_written_truth.ensures (and_parts _ _ both).1)

pub returns-clause-exact : goal.returns-clause-exact
returns-clause-exact g c = λ depth some.
    let small : AreOctets c.args.octets.now = λ i. search rules in
    plain_passed depth c.args.at c.in_ok-next.next c.args.end c.args.octets.now some small (omega (arith, c.in_ok-next.ensures.next.0)) c.in_ok-next.ensures.next.1 c.requires.inside c.in_ok-next.ensures.plain.0

pub returns-clause-written : goal.returns-clause-written
returns-clause-written g c = λ both depth some d read.
    let octets = c.args.octets.now in
    let at = c.args.at in
    let next = c.in_ok-next.next in
    let m = c.in_ok-next.ensures.plain.0 in
    let k = m.announced.kind in
    let size = length m.others + 1 in
    let rest = slice_range octets next c.args.end in
    let whole : slice_range octets at next ≡ simple_identifier k ∷ size ∷ m.first ∷ m.others = m.parts ∙ ap (λ (i : ℕ). i ∷ size ∷ m.first ∷ m.others) m.announced.identifier in
    let behind : slice_range octets (at + 2) next ≡ m.first ∷ m.others = sym (region-drop octets at 2 next (omega (arith, c.in_ok-next.ensures.next.0))) ∙ ap (drop 2) m.parts in
    let split = region-split octets at next c.args.end (omega (arith, c.in_ok-next.ensures.next.0)) c.in_ok-next.ensures.next.1 in
    whole ∙ plain_stands k m.first m.others rest m.announced.few depth at d next
    (λ v e s. sym behind ∙ c.is_plain_written.ensures (and_parts _ _ both).1 v (e ∙ c.in_ok-next.ensures.plain.1) (subst (SpellsSimple v) (sym behind) s))
    (sym (ap (λ (l : List ℕ). member_at depth at (l ++ rest)) whole) ∙ sym (ap (member_at depth at) split) ∙ read)

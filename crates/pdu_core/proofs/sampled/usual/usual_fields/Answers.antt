use Rattle.std.proofs.Common.{◌≡◌, ℕ, ◌+◌, List, [], ◌∷◌, ◌++◌, length, get_or, take, drop, sym, subst, ap, ap₂, ◌∙◌, arith, rules}
use Rattle.std.proofs.Math.Nat.{mod-eq_of_lt}
use Rattle.std.proofs.lemmas.List.{length-take, take-append-drop}
use Rattle.std.specs.Prelude.{Some, slice_range}
use Rattle.byteorder.specs.Endian.{big_bytes, big_number}
use Rattle.ber_core.specs.Length.{AreOctets}
use Rattle.ber_core.proofs.Regions.{region-drop, region-length}
use Rattle.mms_data.proofs.AsWritten.{slice_octets}
use Rattle.mms_data.proofs.SpelledSpellable.{front_octets}
use Rattle.pdu_core.specs.Contents.{a_text}
use Rattle.pdu_core.proofs.Standing.{fixed_one}
use Rattle.pdu_core.proofs.UsualFields.{usual_heads, usual_read, usual_written}
use Rattle.pdu_core.proofs.sampled.usual.usual_fields.Goals as goal

pub returns-clause-written : goal.returns-clause-written
returns-clause-written c =
    let o = c.args.octets.now in
    let at = c.args.at in
    let end = c.args.end in
    let s = slice_range o at end in
    let cut = c.in-Some.ensures.cases in
    let numbers = c.in-Some.numbers.now in
    let sample = c.part.result.now in
    let octet : AreOctets o = λ i. search rules in
    let small : AreOctets numbers = subst AreOctets (sym cut.0) (front_octets (take 15 s) (drop 15 s) (subst AreOctets (sym (take-append-drop 15 s)) (slice_octets o at end octet))) in
    let whole = region-length o at end c.requires.inside in
    let size : length numbers ≡ 15 = omega (arith, ap length cut.0, length-take 15 s, cut.2) in
    let behind : c.in-Some.rest.now ≡ sample = cut.1 ∙ region-drop o at 15 end (omega (arith, whole, cut.2)) ∙ sym c.part.ensures.contents in
    let heads = usual_heads numbers size small (sym c.read_u16-smp_cnt.ensures ∙ c.if-smp_cnt.false) (sym c.read_u16-conf_rev.ensures ∙ c.if-conf_rev.false) (sym c.read_u16-smp_synch.ensures ∙ c.if-smp_synch.false) c.if-numbers.false in
    let cnt = slice_range numbers 2 4 in
    let rev = slice_range numbers 6 10 in
    let two : length cnt ≡ 2 = region-length numbers 2 4 (omega (arith, size)) in
    let four : length rev ≡ 4 = region-length numbers 6 10 (omega (arith, size)) in
    let cnt_is = fixed_one 2 c.read_u16.result cnt (slice_octets numbers 2 4 small) (two, ap (λ (k : ℕ). big_number k cnt) two ∙ sym c.read_u16.ensures) in
    let rev_is = fixed_one 4 c.read_u32.result rev (slice_octets numbers 6 10 small) (four, ap (λ (k : ℕ). big_number k rev) four ∙ sym c.read_u32.ensures) in
    let synch : get_or numbers 12 0 ∷ [] ≡ big_bytes 1 (get_or numbers 12 0) = ap (λ (x : ℕ). x ∷ []) (sym (mod-eq_of_lt (small 12))) in
    sym (take-append-drop 15 s) ∙ ap₂ (λ (x y : List ℕ). x ++ y) (sym cut.0 ∙ heads) (sym cut.1 ∙ behind)
    ∙ usual_written cnt rev sample c.read_u16.result c.read_u32.result (get_or numbers 12 0) (get_or numbers 14 0) cnt_is rev_is synch two four c.if-numbers-ge128.false (sym (ap length behind) ∙ sym c.if-numbers-rest.false)

pub returns-clause-exact : goal.returns-clause-exact
returns-clause-exact c =
    let o = c.args.octets.now in
    let cut = c.in-Some.ensures.cases in
    let behind = region-length o (c.args.at + 15) c.args.end c.requires.inside in
    let whole = region-length o c.args.at c.args.end c.requires.inside in
    let sample = ap length c.part.ensures.contents in
    usual_read o c.args.at c.args.end c.read_u16.result c.read_u32.result _ c.part.result.now c.requires.ordered c.requires.inside (search rules) (search rules) (search rules)
    (omega (arith, sample, behind, whole, cut.2, c.if-numbers-ge128.false, c.if-numbers-rest.false)) (returns-clause-written c) (omega (arith, sample, behind, whole, cut.2)) (Some (a_text c.args.sv_id.now))

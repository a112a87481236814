use Rattle.std.proofs.Common.{◌≡◌, pos, sym, ap, ap₂, ◌∙◌, rules, arith}
use Rattle.std.proofs.lemmas.Bool.{and_parts}
use Rattle.std.specs.Prelude.{slice_range}
use Rattle.ber_core.specs.Length.{AreOctets}
use Rattle.ber_core.specs.Written.{written_element, short_integer}
use Rattle.mms_data.proofs.AsWritten.{header_one}
use Rattle.pdu_core.proofs.Standing.{join}
use Rattle.pdu_core.proofs.sampled.viewing.sv.Goals as goal

pub returns-clause-written : goal.returns-clause-written
returns-clause-written g c = λ told.
    let o = c.args.octets.now in
    let small : AreOctets o = λ i. search rules in
    let h = c.in_ok-header.header in
    let e = c.in_ok-header.ensures in
    let to = h.contents_to in
    let m_asdus = c.in_ok-asdus.ensures.stands told in
    let m_count = c.in_ok-count.ensures.stands m_asdus.0 in
    let short = c.has_short_length.ensures (and_parts _ _ m_count.0).1 in
    let count = ap (λ n. written_element 0x80 (short_integer (pos n))) c.in_ok-check_count.ensures.same in
    let inner : c.in_ok-asdus.place ≡ to = omega (arith, c.in_ok-check_end.ensures.found, c.in_ok-asdus.ensures.next.1) in
    let outer : to ≡ c.args.end = omega (arith, c.in_ok-check_end-2.ensures.found, e.places.within) in
    let contents = join o h.contents_from c.in_ok-count.place to c.in_ok-count.ensures.next.0 c.in_ok-count.ensures.next.1 (m_count.1 ∙ count) (ap (slice_range o c.in_ok-count.place) (sym inner) ∙ m_asdus.1) in
    ap (slice_range o c.args.at) (sym outer)
    ∙ header_one o c.args.at c.args.end h small c.requires.inside e.found.0 (omega (arith, e.places.at, e.places.begins)) short
    ∙ ap₂ written_element e.found.1 contents

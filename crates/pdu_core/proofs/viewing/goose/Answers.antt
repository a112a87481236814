use Rattle.std.proofs.Common.{◌≡◌, Some, sym, ap, ap₂, ◌∙◌, rules, arith}
use Rattle.std.proofs.lemmas.Bool.{and_parts}
use Rattle.std.specs.Prelude.{slice_range}
use Rattle.ber_core.specs.Length.{AreOctets}
use Rattle.ber_core.specs.Written.{written_element}
use Rattle.mms_data.proofs.AsWritten.{header_one}
use Rattle.pdu_core.specs.Contents.{a_number}
use Rattle.pdu_core.specs.Written.{written_field}
use Rattle.pdu_core.proofs.Standing.{join, nothing}
use Rattle.pdu_core.proofs.viewing.goose.Goals as goal

pub returns-clause-written : goal.returns-clause-written
returns-clause-written g c = λ told.
    let o = c.args.octets.now in
    let small : AreOctets o = λ i. search rules in
    let h = c.in_ok-header.header in
    let e = c.in_ok-header.ensures in
    let to = h.contents_to in
    let m_entries = c.in_ok-entries.ensures.stands told in
    let m_count = c.in_ok-count.ensures.stands m_entries.0 in
    let m_nds_com = c.in_ok-nds_com.ensures.stands m_count.0 in
    let m_conf_rev = c.in_ok-conf_rev.ensures.stands m_nds_com.0 in
    let m_simulation = c.in_ok-simulation.ensures.stands m_conf_rev.0 in
    let m_sq_num = c.in_ok-sq_num.ensures.stands m_simulation.0 in
    let m_st_num = c.in_ok-st_num.ensures.stands m_sq_num.0 in
    let m_t = c.in_ok-t.ensures.stands m_st_num.0 in
    let m_go_id = c.in_ok-go_id.ensures.stands m_t.0 in
    let m_dat_set = c.in_ok-dat_set.ensures.stands m_go_id.0 in
    let m_live = c.in_ok-live.ensures.stands m_dat_set.0 in
    let m_gocb_ref = c.in_ok-gocb_ref.ensures.stands m_live.0 in
    let short = c.has_short_length.ensures (and_parts _ _ m_gocb_ref.0).1 in
    let count = ap (λ n. written_field 0x8a (Some (a_number n))) c.in_ok-check_count.ensures.same in
    let whole : to ≡ c.args.end = omega (arith, c.in_ok-check_end-2.ensures.found, e.places.within) in
    let contents = (join o h.contents_from c.in_ok-gocb_ref.place to c.in_ok-gocb_ref.ensures.next.0 c.in_ok-gocb_ref.ensures.next.1 m_gocb_ref.1
    (join o c.in_ok-gocb_ref.place c.in_ok-live.place to c.in_ok-live.ensures.next.0 c.in_ok-live.ensures.next.1 m_live.1
    (join o c.in_ok-live.place c.in_ok-dat_set.place to c.in_ok-dat_set.ensures.next.0 c.in_ok-dat_set.ensures.next.1 m_dat_set.1
    (join o c.in_ok-dat_set.place c.in_ok-go_id.place to c.in_ok-go_id.ensures.next.0 c.in_ok-go_id.ensures.next.1 m_go_id.1
    (join o c.in_ok-go_id.place c.in_ok-t.place to c.in_ok-t.ensures.next.0 c.in_ok-t.ensures.next.1 m_t.1
    (join o c.in_ok-t.place c.in_ok-st_num.place to c.in_ok-st_num.ensures.next.0 c.in_ok-st_num.ensures.next.1 m_st_num.1
    (join o c.in_ok-st_num.place c.in_ok-sq_num.place to c.in_ok-sq_num.ensures.next.0 c.in_ok-sq_num.ensures.next.1 m_sq_num.1
    (join o c.in_ok-sq_num.place c.in_ok-simulation.place to c.in_ok-simulation.ensures.next.0 c.in_ok-simulation.ensures.next.1 m_simulation.1
    (join o c.in_ok-simulation.place c.in_ok-conf_rev.place to c.in_ok-conf_rev.ensures.next.0 c.in_ok-conf_rev.ensures.next.1 m_conf_rev.1
    (join o c.in_ok-conf_rev.place c.in_ok-nds_com.place to c.in_ok-nds_com.ensures.next.0 c.in_ok-nds_com.ensures.next.1 m_nds_com.1
    (join o c.in_ok-nds_com.place c.in_ok-count.place to c.in_ok-count.ensures.next.0 c.in_ok-count.ensures.next.1 (m_count.1 ∙ count)
    (join o c.in_ok-count.place c.in_ok-entries.place to c.in_ok-entries.ensures.next.0 c.in_ok-entries.ensures.next.1 m_entries.1
    (nothing o c.in_ok-entries.place to c.in_ok-check_end.ensures.found))))))))))))) in
    ap (slice_range o c.args.at) (sym whole)
    ∙ header_one o c.args.at c.args.end h small c.requires.inside e.found.0 (omega (arith, e.places.at, e.places.begins)) short
    ∙ ap₂ written_element e.found.1 contents

use Rattle.std.proofs.Common.{ℕ, ap, ap₂, sym, ◌∙◌, rules, arith}
use Rattle.byteorder.specs.Endian.{big_bytes}
use Rattle.std.proofs.lemmas.Bool.{and_parts}
use Rattle.ber_core.specs.Length.{AreOctets}
use Rattle.ber_core.specs.Written.{written_element}
use Rattle.mms_data.proofs.AsWritten.{header_one}
use Rattle.pdu_core.proofs.KnownItems.{one_number}
use Rattle.pdu_core.proofs.Standing.{join, nothing}
use Rattle.pdu_core.proofs.sampled.asdus.asdu.Goals as goal

pub returns-clause-written : goal.returns-clause-written
returns-clause-written g c = λ told.
    let o = c.args.octets.now in
    let small : AreOctets o = λ i. search rules in
    let h = c.in_ok-header.header in
    let e = c.in_ok-header.ensures in
    let to = h.contents_to in
    let m_field_89 = c.in_ok-field_89.ensures.stands told in
    let m_smp_mod = c.in_ok-smp_mod.ensures.stands m_field_89.0 in
    let m_sample = c.in_ok-sample.ensures.stands m_smp_mod.0 in
    let m_smp_rate = c.in_ok-smp_rate.ensures.stands m_sample.0 in
    let m_smp_synch = c.in_ok-smp_synch.ensures.stands m_smp_rate.0 in
    let m_refr_tm = c.in_ok-refr_tm.ensures.stands m_smp_synch.0 in
    let m_conf_rev = c.in_ok-conf_rev.ensures.stands m_refr_tm.0 in
    let m_smp_cnt = c.in_ok-smp_cnt.ensures.stands m_conf_rev.0 in
    let m_dat_set = c.in_ok-dat_set.ensures.stands m_smp_cnt.0 in
    let m_sv_id = c.in_ok-sv_id.ensures.stands m_dat_set.0 in
    let smp_cnt = m_smp_cnt.1 ∙ ap (λ (n : ℕ). written_element 0x82 (big_bytes 2 n)) (sym c.read_u16.ensures) in
    let conf_rev = m_conf_rev.1 ∙ ap (λ (n : ℕ). written_element 0x83 (big_bytes 4 n)) (sym c.read_u32.ensures) in
    let smp_synch = m_smp_synch.1 ∙ ap (λ (n : ℕ). written_element 0x85 (big_bytes 1 n)) (one_number c.in_ok-smp_synch.smp_synch.now c.in_ok-smp_synch.ensures.size) in
    let short = c.has_short_length.ensures (and_parts _ _ m_sv_id.0).1 in
    let contents = (join o h.contents_from c.in_ok-sv_id.place to c.in_ok-sv_id.ensures.next.0 c.in_ok-sv_id.ensures.next.1 m_sv_id.1
    (join o c.in_ok-sv_id.place c.in_ok-dat_set.place to c.in_ok-dat_set.ensures.next.0 c.in_ok-dat_set.ensures.next.1 m_dat_set.1
    (join o c.in_ok-dat_set.place c.in_ok-smp_cnt.place to c.in_ok-smp_cnt.ensures.next.0 c.in_ok-smp_cnt.ensures.next.1 smp_cnt
    (join o c.in_ok-smp_cnt.place c.in_ok-conf_rev.place to c.in_ok-conf_rev.ensures.next.0 c.in_ok-conf_rev.ensures.next.1 conf_rev
    (join o c.in_ok-conf_rev.place c.in_ok-refr_tm.place to c.in_ok-refr_tm.ensures.next.0 c.in_ok-refr_tm.ensures.next.1 m_refr_tm.1
    (join o c.in_ok-refr_tm.place c.in_ok-smp_synch.place to c.in_ok-smp_synch.ensures.next.0 c.in_ok-smp_synch.ensures.next.1 smp_synch
    (join o c.in_ok-smp_synch.place c.in_ok-smp_rate.place to c.in_ok-smp_rate.ensures.next.0 c.in_ok-smp_rate.ensures.next.1 m_smp_rate.1
    (join o c.in_ok-smp_rate.place c.in_ok-sample.place to c.in_ok-sample.ensures.next.0 c.in_ok-sample.ensures.next.1 m_sample.1
    (join o c.in_ok-sample.place c.in_ok-smp_mod.place to c.in_ok-smp_mod.ensures.next.0 c.in_ok-smp_mod.ensures.next.1 m_smp_mod.1
    (join o c.in_ok-smp_mod.place c.in_ok-field_89.place to c.in_ok-field_89.ensures.next.0 c.in_ok-field_89.ensures.next.1 m_field_89.1
    (nothing o c.in_ok-field_89.place to c.in_ok-check_end.ensures.found))))))))))) in
    header_one o c.args.at c.args.end h small c.requires.inside e.found.0 (omega (arith, e.places.at, e.places.begins)) short
    ∙ ap₂ written_element e.found.1 contents

use Rattle.std.proofs.Common.{ℕ, subst, sym}
use Rattle.pdu_core.specs.Views.{pdu_of}
use Rattle.repeat_core.proofs.WhatIsNoted.{Found, FoundIf, noted}
use Rattle.repeat_core.proofs.noting.notes_of.Goals as goal

pub returns-clause-noted : goal.returns-clause-noted
returns-clause-noted c =
    let o = c.args.octets.now in
    let h = c.in_ok-apdu.apdu in
    let to = h.contents_to in
    let f : Found 0x61 o _ _ h = record { exact = sym c.in_ok-apdu.ensures.exact; found = c.in_ok-apdu.ensures.found; places = c.in_ok-apdu.ensures.places } in
    let f0 : Found 0x80 o _ to c.in_ok-gocb_ref.gocb_ref = record { exact = sym c.in_ok-gocb_ref.ensures.exact; found = c.in_ok-gocb_ref.ensures.found; places = c.in_ok-gocb_ref.ensures.places } in
    let f1 : Found 0x81 o _ to c.in_ok-live.live = record { exact = sym c.in_ok-live.ensures.exact; found = c.in_ok-live.ensures.found; places = c.in_ok-live.ensures.places } in
    let f2 : Found 0x82 o _ to c.in_ok-dat_set.dat_set = record { exact = sym c.in_ok-dat_set.ensures.exact; found = c.in_ok-dat_set.ensures.found; places = c.in_ok-dat_set.ensures.places } in
    let f3 : FoundIf 0x83 o _ to c.in_ok-go_id.go_id = record { exact = sym c.in_ok-go_id.ensures.exact; places = c.in_ok-go_id.ensures.places } in
    let f4 : Found 0x84 o _ to c.in_ok-t.t = record { exact = sym c.in_ok-t.ensures.exact; found = c.in_ok-t.ensures.found; places = c.in_ok-t.ensures.places } in
    let f5 : Found 0x85 o _ to c.in_ok-st_num.st_num = record { exact = sym c.in_ok-st_num.ensures.exact; found = c.in_ok-st_num.ensures.found; places = c.in_ok-st_num.ensures.places } in
    let f6 : Found 0x86 o _ to c.in_ok-sq_num.sq_num = record { exact = sym c.in_ok-sq_num.ensures.exact; found = c.in_ok-sq_num.ensures.found; places = c.in_ok-sq_num.ensures.places } in
    let f7 : FoundIf 0x87 o _ to c.in_ok-simulation.simulation = record { exact = sym c.in_ok-simulation.ensures.exact; places = c.in_ok-simulation.ensures.places } in
    let f8 : Found 0x88 o _ to c.in_ok-conf_rev.conf_rev = record { exact = sym c.in_ok-conf_rev.ensures.exact; found = c.in_ok-conf_rev.ensures.found; places = c.in_ok-conf_rev.ensures.places } in
    let f9 : FoundIf 0x89 o _ to c.in_ok-nds_com.nds_com = record { exact = sym c.in_ok-nds_com.ensures.exact; places = c.in_ok-nds_com.ensures.places } in
    let fa : Found 0x8a o _ to c.in_ok-count.count = record { exact = sym c.in_ok-count.ensures.exact; found = c.in_ok-count.ensures.found; places = c.in_ok-count.ensures.places } in
    let fb : Found 0xab o _ to c.in_ok-members.members = record { exact = sym c.in_ok-members.ensures.exact; found = c.in_ok-members.ensures.found; places = c.in_ok-members.ensures.places } in
    let g4 = subst (λ (k : ℕ). Found 0x84 o k to c.in_ok-t.t) c.behind-t_at.ensures f4 in
    let g8 = subst (λ (k : ℕ). Found 0x88 o k to c.in_ok-conf_rev.conf_rev) c.behind-conf_rev_at.ensures f8 in
    let ga = subst (λ (k : ℕ). Found 0x8a o k to c.in_ok-count.count) c.behind-count_at.ensures fa in
    rw (c.contents_if.ensures, c.is_some.ensures) (noted o c.args.ether_type c.args.end (pdu_of c.args.goose.now) c.args.goose.now.entries c.args.goose.now.counted c.requires.ordered c.requires.inside c.requires.spelled
    h c.in_ok-gocb_ref.gocb_ref c.in_ok-live.live c.in_ok-dat_set.dat_set c.in_ok-go_id.go_id c.in_ok-t.t c.in_ok-st_num.st_num c.in_ok-sq_num.sq_num c.in_ok-simulation.simulation c.in_ok-conf_rev.conf_rev c.in_ok-nds_com.nds_com c.in_ok-count.count c.in_ok-members.members
    f f0 f1 f2 f3 g4 f5 f6 f7 g8 f9 ga fb)

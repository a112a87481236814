use Rattle.std.proofs.Common.{sym, ap, ◌∙◌, ◌<◌, rules, arith}
use Rattle.std.specs.Prelude.{slice_range}
use Rattle.std.proofs.lemmas.Bool.{and_parts}
use Rattle.std.proofs.lemmas.Result.{err_from_is_err_and}
use Rattle.ber_core.specs.Element.{contents_of}
use Rattle.ber_core.specs.Length.{AreOctets}
use Rattle.mms_data.specs.computed.Reading.{contents_at, members_at}
use Rattle.mms_data.proofs.AsWritten.{nested_are, simple_are}
use Rattle.mms_data.proofs.Loop.{member_there}
use Rattle.mms_data.proofs.Checked.{counts_none, counts_on, counts_wrong, counts_all, stand_all, too_deep, member_stands, member_wrong, member_good}
use Rattle.mms_data.proofs.checking.+checking.Goals as goal

pub pass_other-returns-in_err-written-in-Ok-clause-exact : goal.pass_other-returns-in_err-written-in-Ok-clause-exact
pass_other-returns-in_err-written-in-Ok-clause-exact g t c =
    let p = err_from_is_err_and c.from_residual-in_err-written-in-Ok.result c.from_residual-in_err-written-in-Ok.ensures.1 in
    let h = c.in-Ok.header in
    let places = c.in-Ok.ensures.places in
    let is = member_there c.args.depth c.args.at c.args.octets.now c.args.end (omega arith) c.in_ok-kind-in-Ok.kind h places.at places.begins places.order places.within (sym c.in_ok-kind-in-Ok.ensures) (sym c.in-Ok.ensures.exact) in
    rw (p.1, p.2, is) (member_wrong _ _ h.contents_to c.in_err-written-in-Ok.ensures.exact)

pub pass_other-returns-in_ok-written-in-Ok-clause-exact : goal.pass_other-returns-in_ok-written-in-Ok-clause-exact
pass_other-returns-in_ok-written-in-Ok-clause-exact g t c =
    let h = c.in-Ok.header in
    let places = c.in-Ok.ensures.places in
    let is = member_there c.args.depth c.args.at c.args.octets.now c.args.end (omega arith) c.in_ok-kind-in-Ok.kind h places.at places.begins places.order places.within (sym c.in_ok-kind-in-Ok.ensures) (sym c.in-Ok.ensures.exact) in
    rw is (member_good _ _ h.contents_to c.in_ok-written-in-Ok.ensures.exact)

pub count_members-members-init : goal.count_members-members-init
count_members-members-init g t c = counts_none c.args.depth c.args.at c.args.octets.now c.args.end c.requires.inside _ c.requires.order

pub count_members-returns-then-depth-eq0-clause-exact : goal.count_members-returns-then-depth-eq0-clause-exact
count_members-returns-then-depth-eq0-clause-exact g t c =
    counts_wrong c.args.depth c.args.at c.args.octets.now c.args.end c.requires.inside _ c.members.place c.members.count c.members.written c.members-test.true
    (too_deep c.args.depth c.members.place (slice_range c.args.octets.now c.members.place c.args.end) c.at.result c.if-depth-eq0.true c.at.ensures) c.members.invariant

pub count_members-plain-preserved : goal.count_members-plain-preserved
count_members-plain-preserved g t c =
    let some : 0 < c.args.depth = omega arith in
    let more : c.plain.place < c.args.end = omega arith in
    record {
      so_far = counts_on c.args.depth c.args.at c.args.octets.now c.args.end c.requires.inside c.plain.place c.in-Some.next c.plain.count c.plain.written c.in-Some.stands more
          c.in-Some.ensures.next.0 c.in-Some.ensures.next.1 (c.in-Some.ensures.exact c.args.depth some) (λ told. c.in-Some.ensures.written told c.args.depth some) c.plain.invariant.so_far;
      on = omega (arith, c.in-Some.ensures.next.0, c.plain.invariant.on);
    }

pub count_members-returns-then-place-end-clause-exact : goal.count_members-returns-then-place-end-clause-exact
count_members-returns-then-place-end-clause-exact g t c = counts_all c.args.depth c.args.at c.args.octets.now c.args.end c.requires.inside c.plain.place c.plain.count c.plain.written (omega arith) c.plain.invariant.so_far

pub count_members-returns-then-place-end-clause-written : goal.count_members-returns-then-place-end-clause-written
count_members-returns-then-place-end-clause-written g t c = stand_all c.args.depth c.args.at c.args.octets.now c.args.end c.requires.inside c.plain.place c.plain.count c.plain.written (omega arith) c.plain.invariant.so_far

pub count_members-returns-in_err-next-clause-exact : goal.count_members-returns-in_err-next-clause-exact
count_members-returns-in_err-next-clause-exact g t c =
    let p = err_from_is_err_and c.from_residual.result c.from_residual.ensures.1 in
    let more : c.plain.place < c.args.end = omega (arith, c.plain.invariant.so_far.goes.order) in
    rw (p.1, p.2) (counts_wrong c.args.depth c.args.at c.args.octets.now c.args.end c.requires.inside _ c.plain.place c.plain.count c.plain.written more c.in_err-next.ensures.exact c.plain.invariant.so_far)

pub count_members-members-preserved : goal.count_members-members-preserved
count_members-members-preserved g t c =
    let more : c.plain.place < c.args.end = omega (arith, c.plain.invariant.so_far.goes.order) in
    counts_on c.args.depth c.args.at c.args.octets.now c.args.end c.requires.inside c.plain.place c.in_ok-next.next c.plain.count c.plain.written c.in_ok-next.stands more
    c.in_ok-next.ensures.next.0 c.in_ok-next.ensures.next.1 c.in_ok-next.ensures.exact c.in_ok-next.ensures.written c.plain.invariant.so_far

pub count_members-returns-after-members-clause-exact : goal.count_members-returns-after-members-clause-exact
count_members-returns-after-members-clause-exact g t c = counts_all c.args.depth c.args.at c.args.octets.now c.args.end c.requires.inside c.members.place c.members.count c.members.written c.members-test.false c.members.invariant

pub count_members-returns-after-members-clause-written : goal.count_members-returns-after-members-clause-written
count_members-returns-after-members-clause-written g t c = stand_all c.args.depth c.args.at c.args.octets.now c.args.end c.requires.inside c.members.place c.members.count c.members.written c.members-test.false c.members.invariant

pub pass_other-returns-in_ok-written-in-Ok-clause-written : goal.pass_other-returns-in_ok-written-in-Ok-clause-written
pass_other-returns-in_ok-written-in-Ok-clause-written g t c = λ both.
    let small : AreOctets c.args.octets.now = λ i. search rules in
    let parts = and_parts _ _ both in
    let noted = and_parts _ _ parts.0 in
    member_stands c.args.depth c.args.at c.args.octets.now c.args.end c.in_ok-kind-in-Ok.kind c.in-Ok.header small c.requires.inside (omega arith) c.in-Ok.ensures.found c.in-Ok.ensures.places
    (sym c.in_ok-kind-in-Ok.ensures) (sym c.in-Ok.ensures.exact) (c.has_short_length.ensures noted.1) (c.in_ok-written-in-Ok.ensures.written parts.1)

pub check_contents-returns-in_ok-_count-in-Array-clause-written : goal.check_contents-returns-in_ok-_count-in-Array-clause-written
check_contents-returns-in_ok-_count-in-Array-clause-written g t c = λ w d e. nested_are c.args.depth c.args.kind c.args.header.now _ d c.in-Array.is e (c.in_ok-_count-in-Array.ensures.written w)

pub check_contents-returns-in_ok-_view-in-Simple-clause-written : goal.check_contents-returns-in_ok-_view-in-Simple-clause-written
check_contents-returns-in_ok-_view-in-Simple-clause-written g t c = λ w d e.
    let read = ap (λ x. contents_at (members_at c.args.depth) x c.args.header.now (contents_of c.args.octets.now c.args.header.now)) (sym c.in-Simple.is) ∙ e in
    simple_are c.args.depth c.in-Simple.kind c.args.header.now _ d (c.is_simple_written.ensures (and_parts _ _ w).1) read

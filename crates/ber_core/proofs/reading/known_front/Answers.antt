use Rattle.std.proofs.Common.{arith, refl, ap, sym, ◌∙◌, Ok, length-drop}
use Rattle.ber_core.specs.declared.element.Header.{Header}
use Rattle.ber_core.proofs.Headers.{known_long, known_room, known_short}
use Rattle.ber_core.proofs.reading.known_front.Goals as goal

pub bounds-octets-0 : goal.bounds-octets-0
bounds-octets-0 c = omega (arith, known_room c.args.at c.args.octets.now c.requires.known)

pub bounds-octets-1 : goal.bounds-octets-1
bounds-octets-1 c = omega (arith, known_room c.args.at c.args.octets.now c.requires.known)

pub overflow_add-result : goal.overflow_add-result
overflow_add-result c = omega (arith, known_room c.args.at c.args.octets.now c.requires.known)

pub overflow_add-result-then-first-lt128 : goal.overflow_add-result-then-first-lt128
overflow_add-result-then-first-lt128 c = omega (arith, known_room c.args.at c.args.octets.now c.requires.known)

pub overflow_add-result-then-first-lt128-2 : goal.overflow_add-result-then-first-lt128-2
overflow_add-result-then-first-lt128-2 c = let s = known_short c.args.at c.args.octets.now c.requires.known c.if-first-lt128.true in omega (arith, s.0)

pub returns-then-first-lt128-clause-exact : goal.returns-then-first-lt128-clause-exact
returns-then-first-lt128-clause-exact c = (known_short c.args.at c.args.octets.now c.requires.known c.if-first-lt128.true).1

pub returns-then-first-lt128-clause-places : goal.returns-then-first-lt128-clause-places
returns-then-first-lt128-clause-places c =
    let s = known_short c.args.at c.args.octets.now c.requires.known c.if-first-lt128.true in
    record { at = refl; begins = omega arith; order = omega arith; within = omega (arith, s.0) }

pub known_long-requires-clause-some : goal.known_long-requires-clause-some
known_long-requires-clause-some c = (known_long c.args.at c.args.octets.now c.requires.known c.if-first-lt128.false).2.some

pub known_long-requires-clause-few : goal.known_long-requires-clause-few
known_long-requires-clause-few c = (known_long c.args.at c.args.octets.now c.requires.known c.if-first-lt128.false).2.few

pub known_long-requires-clause-room : goal.known_long-requires-clause-room
known_long-requires-clause-room c =
    let o = c.args.octets.now in
    let l = known_long c.args.at o c.requires.known c.if-first-lt128.false in
    rw c.split_at.ensures.back (omega (arith, l.2.room, length-drop 2 o))

pub returns-else-first-lt128-clause-exact : goal.returns-else-first-lt128-clause-exact
returns-else-first-lt128-clause-exact c =
    let l = known_long c.args.at c.args.octets.now c.requires.known c.if-first-lt128.false in
    l.1 ∙ ap (λ (h : Header). Ok h) (l.2.is ∙ sym (rw c.split_at.ensures.back at c.known_long.ensures))

pub returns-else-first-lt128-clause-places : goal.returns-else-first-lt128-clause-places
returns-else-first-lt128-clause-places c =
    let o = c.args.octets.now in
    let l = known_long c.args.at o c.requires.known c.if-first-lt128.false in
    let is = rw c.split_at.ensures.back at c.known_long.ensures in
    rw is (record { at = refl; begins = omega arith; order = omega arith; within = omega (arith, l.2.room) })

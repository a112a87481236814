use Rattle.std.proofs.Common.{arith, ap, sym, subst, ◌≡◌, ◌+◌, ◌-◌, ◌*◌, take, drop, length, ℕ, Some}
use Rattle.std.proofs.lemmas.List.{take_all, length-drop}
use Rattle.list_core.specs.EventLine.{microseconds_in, most_digits}
use Rattle.list_core.specs.computed.LineAnswer.{IsFront}
use Rattle.list_core.proofs.LineFields.{number_front}
use Rattle.list_core.proofs.list_line.front_in.Goals.{in-Milliseconds, in-Microseconds}
use Rattle.list_core.proofs.list_line.front_in.Goals as goal

pub returns-then-rest-count-eq32 : goal.returns-then-rest-count-eq32
returns-then-rest-count-eq32 g c =
    let xs = c.args.rest.now in
    let n = c.number_in_front-count.result.0 in
    let front = c.number_in_front-count.ensures in
    let scale : c.match-unit.most ≡ (most_digits c.args.unit, microseconds_in c.args.unit) = elim c.match-unit.branch [
      | in-Milliseconds w ↦ rw w.in-Milliseconds.is w.most-is
      | in-Microseconds w ↦ rw w.in-Microseconds.is w.most-is
    ] in
    let most : c.match-unit.most.0 ≡ most_digits c.args.unit = ap (λ (p : ℕ × ℕ). p.0) scale in
    let h = take (length xs - (n + 1)) (drop (n + 1) xs) in
    let rest : h ≡ drop (n + 1) xs = take_all (length xs - (n + 1)) (drop (n + 1) xs) (omega (arith, length-drop (n + 1) xs)) in
    subst (λ (p : ℕ × ℕ). IsFront c.args.unit xs (Some (c.number_in_front-count.result.1 * p.1)) h) (sym scale)
    (number_front c.args.unit xs h n c.number_in_front-count.result.1 (omega arith) (omega (arith, most)) (omega arith) (omega arith) rest front.digits front.value)

use Rattle.std.proofs.Common.{arith, true, get_or, ◌≡◌, ◌+◌, ◌-◌, ◌*◌, ◌≤◌, ◌<◌, ◌%◌, length, ap, refl, ◌∙◌}
use Rattle.std.specs.Char.{is_ascii_digit}
use Rattle.std.proofs.lemmas.Bool.Decides.{nat_tests}
use Rattle.std.proofs.lemmas.List.Folds.{list_all_more}
use Rattle.list_core.proofs.MomentDigits.{value-more, value_below}
use Rattle.list_core.proofs.decimal.number_in_front.Goals as goal

pub overflow_mul-number : goal.overflow_mul-number
overflow_mul-number c =
    let small = value_below c.args.octets.now c.loop-at.at 18 c.loop-at.number c.loop-at.invariant.value c.loop-at.invariant.digits (omega arith) in
    omega arith

pub overflow_add-number : goal.overflow_add-number
overflow_add-number c =
    let small = value_below c.args.octets.now c.loop-at.at 18 c.loop-at.number c.loop-at.invariant.value c.loop-at.invariant.digits (omega arith) in
    omega arith

pub loop-at-preserved : goal.loop-at-preserved
loop-at-preserved c =
    let xs = c.args.octets.now in
    let i = c.loop-at.at in
    let octet = c.type_inv.octets i in
    let there : i < length xs = omega arith in
    let low : 48 ≤ get_or xs i 0 = omega arith in
    let high : get_or xs i 0 ≤ 57 = omega arith in
    let number : (get_or xs i 0 + 18446744073709551568) % 18446744073709551616 ≡ get_or xs i 0 - 48 = omega arith in
    let digit : is_ascii_digit (get_or xs i 0) ≡ true = grind (arith, nat_tests) in
    record {
      digits = rw (list_all_more is_ascii_digit xs i 0 there, c.loop-at.invariant.digits, digit) refl;
      value = rw number (ap (λ n. n * 10 + (get_or xs i 0 - 48)) c.loop-at.invariant.value ∙ value-more xs i there low high);
    }

pub returns-then-value-gt9-clause-short : goal.returns-then-value-gt9-clause-short
returns-then-value-gt9-clause-short c = value_below c.args.octets.now c.loop-at.at c.args.most c.loop-at.number c.loop-at.invariant.value c.loop-at.invariant.digits (omega arith)

pub returns-clause-short : goal.returns-clause-short
returns-clause-short c = value_below c.args.octets.now c.loop-at.at c.args.most c.loop-at.number c.loop-at.invariant.value c.loop-at.invariant.digits (omega arith)

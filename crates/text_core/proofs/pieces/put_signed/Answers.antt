use Rattle.std.proofs.Common.{◌≡◌, ◌-◌, ◌∷◌, ap, arith, ◌∙◌, to_z-of_z}
use Rattle.std.specs.Fmt.{decimal, signed_decimal}
use Rattle.list_core.proofs.Decimals.{decimal_fits}
use Rattle.text_core.proofs.Cuts.{above_zero, below_zero, reached_front}
use Rattle.text_core.proofs.pieces.put_signed.Goals as goal

pub write_digits-start-requires : goal.write_digits-start-requires
write_digits-start-requires g c =
    let fits = decimal_fits c.unsigned_abs-size.result (omega arith) in
    (omega (arith, fits), omega arith)

pub put_minus-requires-clause-least : goal.put_minus-requires-clause-least
put_minus-requires-clause-least g c =
    let fits = decimal_fits c.unsigned_abs-size.result (omega arith) in
    omega (arith, fits, c.write_digits-start.ensures.start)

pub returns-then-integer-ge0 : goal.returns-then-integer-ge0
returns-then-integer-ge0 g c =
    let back = to_z-of_z c.ranges.integer in
    let text : decimal c.unsigned_abs-size.result ≡ signed_decimal c.args.integer = ap decimal (rw back at c.unsigned_abs-size.ensures.value) ∙ above_zero c.args.integer (rw back at c.if-integer-ge0.true) in
    rw (← text) c.put_decimal.ensures

pub returns : goal.returns
returns g c =
    let back = to_z-of_z c.ranges.integer in
    let number = c.unsigned_abs-size.result in
    let fits = decimal_fits number (omega arith) in
    let text : 45 ∷ decimal number ≡ signed_decimal c.args.integer = ap (λ n. 45 ∷ decimal n) (rw back at c.unsigned_abs-size.ensures.value) ∙ below_zero c.args.integer (rw back at c.if-integer-ge0.false) in
    let written = c.put_minus.ensures ∙ ap (λ l. 45 ∷ l) c.write_digits-start.ensures.written in
    rw (← text, ← reached_front (45 ∷ decimal number) _ _ c.reached.result.now (33 - c.write_digits-start.result) c.reached.ensures written (omega (arith, c.write_digits-start.ensures.start)) (omega (arith, fits, c.write_digits-start.ensures.start))) c.put_front.ensures.text

use Rattle.std.proofs.Common.{refl, arith, rules}
use Rattle.hex.specs.Hex.{lower_digits}
use Rattle.hex.proofs.Pairs.{encode_step, encode_done}
use Rattle.list_core.proofs.hexadecimal.write_digits.Goals as goal

pub loop-at-preserved : goal.loop-at-preserved
loop-at-preserved c = record {
  sized = search rules;
  within = search rules;
  end = search rules;
  written = encode_step lower_digits c.args.octets.now c.loop-at.digits c.loop-at.at c.hexadecimal_digit.result c.hexadecimal_digit-in-loop-at.result
      (omega (arith, c.loop-at.invariant.end, c.loop-at-test.true)) (omega (arith, c.loop-at.invariant.sized, c.loop-at.invariant.end, c.loop-at-test.true))
      c.hexadecimal_digit.ensures c.hexadecimal_digit-in-loop-at.ensures c.loop-at.invariant.written;
}

pub returns : goal.returns
returns c = record {
  room = (λ _. omega (arith, c.if-digits-ne0.false, c.if-digits-octets.false), λ _. refl);
  written = λ all.
      encode_done lower_digits c.args.octets.now c.loop-at.digits c.loop-at.at (omega (arith, c.loop-at.invariant.end, c.loop-at-test.false)) c.loop-at.invariant.sized c.loop-at.invariant.written;
}

use Rattle.std.proofs.Common.{arith, rules, get_or}
use Rattle.hex.specs.Hex.{lower_digits}
use Rattle.hex.proofs.Pairs.{encode_step, encode_done}
use Rattle.text_core.proofs.pieces.block_digits.Goals as goal

pub loop-at-2-preserved : goal.loop-at-2-preserved
loop-at-2-preserved g c =
    let at = c.loop-at-2.at in
    let size = c.told-octets in
    record {
      sized = search rules;
      within = search rules;
      written = encode_step lower_digits c.args.octets.now c.loop-at-2.digits at (get_or c.loop-at.high at 0) (get_or c.loop-at.low at 0)
          (omega arith) (omega (arith, c.loop-at-2.invariant.sized)) (c.loop-at.invariant.high_digits at (omega arith)) (c.loop-at.invariant.low_digits at (omega arith)) c.loop-at-2.invariant.written;
    }

pub returns : goal.returns
returns g c =
    let size = c.told-octets in
    encode_done lower_digits c.args.octets.now c.loop-at-2.digits c.loop-at-2.at (omega arith) (omega (arith, c.loop-at-2.invariant.sized)) c.loop-at-2.invariant.written

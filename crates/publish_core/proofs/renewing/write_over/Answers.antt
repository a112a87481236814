use Rattle.std.proofs.Common.{◌≡◌, ◌++◌, ◌-◌, ℕ, length, take, drop, subst}
use Rattle.byteorder.specs.Endian.{big_bytes}
use Rattle.publish_core.proofs.Places.{over_slice}
use Rattle.publish_core.proofs.renewing.write_over.Goals as goal

pub returns : goal.returns
returns c =
    let part = subst (λ (n : ℕ). c.write_uint.new.buf ≡ big_bytes c.number_length-count.result n ++ drop c.number_length-count.result (take (length c.args.octets.now - c.args.place) (drop c.args.place c.args.octets.now))) c.from.ensures c.write_uint.ensures in
    over_slice c.args.octets.now c.args.place c.args.number c.number_length-count.result c.write_uint.new.buf c.ranges.number.fits c.number_length-count.ensures.size part

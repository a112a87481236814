use Rattle.std.proofs.Common.{arith, refl}
use Rattle.std.proofs.lemmas.Float.{not_nan_f64_bits}
use Rattle.std.specs.Prelude.{from_bits}
use Rattle.std.specs.Float.{binary64}
use Rattle.object_core.specs.MemberObject.{IsNumberOf, IsNumberOrNull}
use Rattle.object_core.specs.Objects.{null}
use Rattle.object_core.proofs.Appending.{exactly, extended}
use Rattle.object_core.proofs.FloatBits.{finite_double, infinite_double}
use Rattle.object_core.proofs.floats.put_double.Goals as goal

pub returns-then-bits-ge9218868437227405312 : goal.returns-then-bits-ge9218868437227405312
returns-then-bits-ge9218868437227405312 g c =
    extended c.extend_from_slice.result _ _ null (IsNumberOrNull binary64 (from_bits binary64 c.args.bits))
    (rw (infinite_double c.args.bits c.if-bits-ge9218868437227405312.true) refl) c.extend_from_slice.ensures.items

pub float_from_bits-bits : goal.float_from_bits-bits
float_from_bits-bits g c = not_nan_f64_bits c.args.bits (omega arith)

pub format-size-requires : goal.format-size-requires
format-size-requires g c = finite_double c.args.bits c.if-bits-ge9218868437227405312.false

pub returns : goal.returns
returns g c =
    let number : IsNumberOf binary64 (from_bits binary64 c.args.bits) _ = record { parses = c.format-size.ensures.parses; plain = c.format-size.ensures.plain; layout = c.format-size.ensures.layout } in
    exactly c.put_front.result _ _ _ (IsNumberOrNull binary64 (from_bits binary64 c.args.bits))
    (rw (finite_double c.args.bits c.if-bits-ge9218868437227405312.false) number) c.put_front.ensures.text

use Rattle.std.proofs.Common.{arith, refl}
use Rattle.std.proofs.lemmas.Float.{not_nan_f32_bits}
use Rattle.std.specs.Prelude.{from_bits}
use Rattle.std.specs.Float.{binary32}
use Rattle.object_core.specs.MemberObject.{IsNumberOf, IsNumberOrNull}
use Rattle.object_core.specs.Objects.{null}
use Rattle.object_core.proofs.Appending.{exactly, extended}
use Rattle.object_core.proofs.FloatBits.{finite_single, infinite_single}
use Rattle.object_core.proofs.floats.put_single.Goals as goal

pub returns-then-bits-ge2139095040 : goal.returns-then-bits-ge2139095040
returns-then-bits-ge2139095040 g c =
    extended c.extend_from_slice.result _ _ null (IsNumberOrNull binary32 (from_bits binary32 c.args.bits))
    (rw (infinite_single c.args.bits c.if-bits-ge2139095040.true) refl) c.extend_from_slice.ensures.items

pub float_from_bits-bits : goal.float_from_bits-bits
float_from_bits-bits g c = not_nan_f32_bits c.args.bits (omega arith)

pub format-size-requires : goal.format-size-requires
format-size-requires g c = finite_single c.args.bits c.if-bits-ge2139095040.false

pub returns : goal.returns
returns g c =
    let number : IsNumberOf binary32 (from_bits binary32 c.args.bits) _ = record { parses = c.format-size.ensures.parses; plain = c.format-size.ensures.plain; layout = c.format-size.ensures.layout } in
    exactly c.put_front.result _ _ _ (IsNumberOrNull binary32 (from_bits binary32 c.args.bits))
    (rw (finite_single c.args.bits c.if-bits-ge2139095040.false) number) c.put_front.ensures.text

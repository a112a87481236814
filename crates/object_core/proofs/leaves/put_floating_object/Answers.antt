use Rattle.std.proofs.Common.{refl}
use Rattle.hex.specs.Hex.{encode_lower}
use Rattle.text_core.proofs.PieceLemmas.{done, more}
use Rattle.object_core.proofs.ObjectParts.{float_parts, float_written, in_turn}
use Rattle.object_core.proofs.leaves.put_floating_object.Goals as goal

pub returns : goal.returns
returns g c =
    let value = c.in_ok-put_float_value.ensures in
    let digits = encode_lower c.args.octets.now in (
      _,
      in_turn (float_parts c.args.sign digits value.0) (float_written c.args.sign digits value.0) (
          more c.in_ok-extend_from_slice.ensures.items (
          more c.in_ok-put_float.ensures (
          more c.in_ok-extend_from_slice-2.ensures.items (
          more value.1 (
          more c.in_ok-push.ensures.items (
          done refl)))))),
      (_, refl, (value.0, refl, value.2)),
    )

use Rattle.text_core.proofs.Fronts.{appended}
use Rattle.text_core.proofs.HexPieces.{front_digits}
use Rattle.text_core.proofs.pieces.put_short_hexadecimal.Goals as goal

pub returns : goal.returns
returns g c =
    appended c.extend_from_slice.result c.args.out.now.items c.extend_from_slice.new.self.items _ _ c.extend_from_slice.ensures.items
    (front_digits c.block_digits.result c.copy_from_slice.new.self c.args.octets.now _ c.block_digits.ensures c.copy_from_slice.ensures.after)

use Rattle.std.proofs.Common.{◌≡◌, ◌++◌, length, take}
use Rattle.hex.specs.Hex.{encode_lower}
use Rattle.text_core.proofs.pieces.put_blocks.Given as goal

abbrev pub invariant-blocks-2 : goal.invariant-blocks-2
invariant-blocks-2 g l = record {
  kept : take (length l.initial.out.items) l.out.items ≡ l.initial.out.items;
  so_far : l.out.items ++ encode_lower l.others ≡ l.initial.out.items ++ encode_lower l.octets;
}

abbrev pub decreases-blocks-2 : goal.decreases-blocks-2
decreases-blocks-2 g l = length l.others

use Rattle.std.proofs.Common.{◌≡◌, ◌++◌, take}
use Rattle.std.specs.List.{flat_map}
use Rattle.inventory_engine.specs.computed.PieceText.{escaped_piece}
use Rattle.inventory_engine.proofs.pieces.put_escaped_pieces.Given as goal

abbrev pub invariant-loop-piece : goal.invariant-loop-piece
invariant-loop-piece g l = l.out.items ≡ l.initial.out.items ++ flat_map escaped_piece (take l.piece-index l.pieces)

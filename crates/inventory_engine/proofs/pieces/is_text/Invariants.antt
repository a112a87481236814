use Rattle.std.proofs.Common.{◌≡◌, ◌++◌, take}
use Rattle.std.specs.List.{flat_map}
use Rattle.inventory_engine.specs.computed.PieceText.{piece_text}
use Rattle.inventory_engine.proofs.pieces.is_text.Given as goal

abbrev pub invariant-loop-piece : goal.invariant-loop-piece
invariant-loop-piece l = l.text ≡ flat_map piece_text (take l.piece-index l.pieces) ++ l.rest

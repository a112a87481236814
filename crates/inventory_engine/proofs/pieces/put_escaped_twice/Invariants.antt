use Rattle.std.proofs.Common.{◌≡◌, ◌++◌, take}
use Rattle.std.specs.List.{flat_map}
use Rattle.inventory_engine.specs.computed.PieceText.{escaped_twice}
use Rattle.inventory_engine.proofs.pieces.put_escaped_twice.Given as goal

abbrev pub invariant-loop-octet : goal.invariant-loop-octet
invariant-loop-octet g l = l.out.items ≡ l.initial.out.items ++ flat_map escaped_twice (take l.octet-index l.text)

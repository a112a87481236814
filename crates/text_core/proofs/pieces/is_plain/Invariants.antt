use Rattle.std.proofs.Common.{◌≡◌, length}
use Rattle.std.specs.List.{flat_map}
use Rattle.text_core.specs.Pieces.{escaped}
use Rattle.text_core.proofs.pieces.is_plain.Given as goal

abbrev pub invariant-eights : goal.invariant-eights
invariant-eights l = flat_map escaped l.others ≡ l.others → flat_map escaped l.text ≡ l.text

abbrev pub decreases-eights : goal.decreases-eights
decreases-eights l = length l.others

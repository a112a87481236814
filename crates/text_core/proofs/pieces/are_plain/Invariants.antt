use Rattle.std.proofs.Common.{◌≡◌, true, take}
use Rattle.std.specs.List.{flat_map}
use Rattle.text_core.specs.Pieces.{escaped}
use Rattle.text_core.proofs.pieces.are_plain.Given as goal

abbrev pub invariant-loop-octet : goal.invariant-loop-octet
invariant-loop-octet l =
    l.without_marks ≡ true → l.without_backslashes ≡ true → flat_map escaped (take l.octet-index l.octets) ≡ take l.octet-index l.octets

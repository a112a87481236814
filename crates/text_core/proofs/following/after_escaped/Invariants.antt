use Rattle.std.proofs.Common.{◌≡◌, ◌++◌, take}
use Rattle.std.specs.List.{flat_map}
use Rattle.text_core.specs.Pieces.{escaped}
use Rattle.text_core.proofs.following.after_escaped.Given as goal

abbrev pub invariant-loop-octet : goal.invariant-loop-octet
invariant-loop-octet l = l.text ≡ flat_map escaped (take l.octet-index l.octets) ++ l.rest

use Rattle.std.proofs.Common.{◌≡◌, take, true}
use Rattle.list_core.specs.Cuts.{HasNo}
use Rattle.list_core.proofs.cutting.lacks.Given as goal

abbrev pub invariant-loop-octet : goal.invariant-loop-octet
invariant-loop-octet l = l.lacks ≡ true → HasNo l.wanted (take l.octet-index l.octets)

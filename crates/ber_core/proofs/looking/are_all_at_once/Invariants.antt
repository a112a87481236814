use Rattle.std.proofs.Common.{◌≡◌, take}
use Rattle.std.specs.List.{list_all}
use Rattle.ber_core.proofs.looking.are_all_at_once.Given as goal

abbrev pub invariant-loop-octet : goal.invariant-loop-octet
invariant-loop-octet g l = l.good ≡ list_all (g.K.OctetKind.has l.kind) (take l.octet-index l.octets)

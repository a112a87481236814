use Rattle.std.proofs.Common.{◌≡◌, ◌+◌, drop}
use Rattle.std.specs.List.{prefix_len}
use Rattle.ber_core.proofs.looking.short_front_count.Given as goal

abbrev pub invariant-loop-at : goal.invariant-loop-at
invariant-loop-at g l = let has = g.K.OctetKind.has l.kind in prefix_len has l.octets ≡ l.at + prefix_len has (drop l.at l.octets)

use Rattle.std.proofs.Common.{◌≡◌, ◌+◌, ◌-◌, ◌≤◌, length}
use Rattle.std.specs.List.{list_all, prefix_len}
use Rattle.ber_core.proofs.looking.behind_pieces.Given as goal

abbrev pub invariant-pieces : goal.invariant-pieces
invariant-pieces g l = let has = g.K.OctetKind.has l.kind in record {
  fewer : length l.others ≤ length l.octets;
  all : list_all has l.octets ≡ list_all has l.others;
  front : prefix_len has l.octets ≡ (length l.octets - length l.others) + prefix_len has l.others;
}

abbrev pub decreases-pieces : goal.decreases-pieces
decreases-pieces g l = length l.others

use Rattle.std.proofs.Common.{◌≤◌, ◌-◌, take, length}
use Rattle.list_core.specs.Cuts.{HasNo}
use Rattle.list_core.proofs.cutting.pass_pieces.Given as goal

abbrev pub invariant-pieces : goal.invariant-pieces
invariant-pieces l = record {
  within : l.start ≤ length l.octets;
  before : HasNo l.wanted (take l.start l.octets);
}

abbrev pub decreases-pieces : goal.decreases-pieces
decreases-pieces l = length l.octets - l.start

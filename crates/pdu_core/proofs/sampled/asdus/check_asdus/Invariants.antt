use Rattle.std.proofs.Common.{◌-◌}
use Rattle.pdu_core.proofs.AsdusRead.{Counts}
use Rattle.pdu_core.proofs.sampled.asdus.check_asdus.Given as goal

abbrev pub invariant-asdus : goal.invariant-asdus
invariant-asdus g l = Counts l.octets l.at l.end l.place l.count l.written

abbrev pub decreases-asdus : goal.decreases-asdus
decreases-asdus g l = l.end - l.place

use Rattle.tally_core.proofs.Tallies as tallies
use Rattle.tally_core.proofs.laws.each_is_counted.Goals as goal

pub returns : goal.returns
returns c = tallies.each_is_counted

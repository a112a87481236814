use Rattle.std.proofs.Common.{arith}
use Rattle.std.specs.Prelude.{slice_range}
use Rattle.mms_data.proofs.Front.{spelled_here}
use Rattle.mms_data.proofs.view.Members.new.Goals as goal

pub invariant_of-result : goal.invariant_of-result
invariant_of-result c = let h = spelled_here c.args.level (slice_range c.args.octets.now c.args.at c.args.end) c.requires.first c.requires.last c.requires.accepted in record { bounded = omega (arith, c.requires.first); spelled = h.0; stands = c.requires.stands }

pub returns-clause-spelled : goal.returns-clause-spelled
returns-clause-spelled c = let h = spelled_here c.args.level (slice_range c.args.octets.now c.args.at c.args.end) c.requires.first c.requires.last c.requires.accepted in h.1

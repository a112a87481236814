use Rattle.std.proofs.Common.{slice_range}
use Rattle.ber_core.proofs.Answered.{found_by, only_by, fault_by, fault_only_by}
use Rattle.ber_core.proofs.reading.header.Goals as goal

pub returns-clause-found : goal.returns-clause-found
returns-clause-found c = found_by c.args.octets.now c.args.at c.args.end c.requires.ordered c.requires.inside _ c.read_header.ensures.exact

pub returns-clause-only : goal.returns-clause-only
returns-clause-only c = only_by c.args.octets.now c.args.at c.args.end c.requires.ordered c.requires.inside _ c.read_header.ensures.exact

pub returns-clause-fault : goal.returns-clause-fault
returns-clause-fault c = fault_by (slice_range c.args.octets.now c.args.at c.args.end) c.args.at _ c.read_header.ensures.exact

pub returns-clause-fault_only : goal.returns-clause-fault_only
returns-clause-fault_only c = fault_only_by (slice_range c.args.octets.now c.args.at c.args.end) c.args.at _ c.read_header.ensures.exact

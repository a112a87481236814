use Rattle.std.proofs.Common.{arith}
use Rattle.std.specs.Prelude.{slice_range}
use Rattle.mms_data.proofs.Checked.{is_found, is_only, is_fault, is_fault_only}
use Rattle.mms_data.proofs.checking.check_members.Goals as goal

pub returns-clause-found : goal.returns-clause-found
returns-clause-found c = is_found _ c.args.level (omega arith) c.args.at (slice_range c.args.octets.now c.args.at c.args.end) c.count_alone.result c.count_alone.ensures

pub returns-clause-only : goal.returns-clause-only
returns-clause-only c = is_only _ c.args.level (omega arith) c.args.at (slice_range c.args.octets.now c.args.at c.args.end) c.count_alone.result c.count_alone.ensures

pub returns-clause-fault : goal.returns-clause-fault
returns-clause-fault c = is_fault _ c.args.level (omega arith) c.args.at (slice_range c.args.octets.now c.args.at c.args.end) c.count_alone.result c.count_alone.ensures

pub returns-clause-fault_only : goal.returns-clause-fault_only
returns-clause-fault_only c = is_fault_only _ c.args.level (omega arith) c.args.at (slice_range c.args.octets.now c.args.at c.args.end) c.count_alone.result c.count_alone.ensures

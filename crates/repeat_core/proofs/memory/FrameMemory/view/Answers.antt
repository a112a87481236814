use Rattle.std.proofs.Common.{Ok}
use Rattle.frame_core.proofs.Answered.{fault_only_by, only_by}
use Rattle.repeat_core.proofs.memory.FrameMemory.view.Goals as goal

pub returns-in-Some-clause-only : goal.returns-in-Some-clause-only
returns-in-Some-clause-only g c = only_by c.args.octets.now (Ok c.frame.result) c.frame.ensures.found tt

pub returns-in-Some-clause-fault_only : goal.returns-in-Some-clause-fault_only
returns-in-Some-clause-fault_only g c = fault_only_by c.args.octets.now (Ok c.frame.result) c.frame.ensures.found tt

use Rattle.capture_core.proofs.AnsweredCaptures.{answered_end_whole, answered_fault_first}
use Rattle.capture_core.proofs.laws.readers_answer_captures.Goals as goal

pub returns-clause-fault : goal.returns-clause-fault
returns-clause-fault g c = answered_fault_first

pub returns-clause-end : goal.returns-clause-end
returns-clause-end g c = answered_end_whole

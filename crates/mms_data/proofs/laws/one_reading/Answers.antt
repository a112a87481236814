use Rattle.mms_data.proofs.OneReading.{members_are_one, members_or_fault, members_else_fault, fault_is_one}
use Rattle.mms_data.proofs.laws.one_reading.Goals as goal

pub returns-clause-members : goal.returns-clause-members
returns-clause-members c = members_are_one

pub returns-clause-either : goal.returns-clause-either
returns-clause-either c = members_or_fault

pub returns-clause-else_fault : goal.returns-clause-else_fault
returns-clause-else_fault c = members_else_fault

pub returns-clause-fault : goal.returns-clause-fault
returns-clause-fault c = fault_is_one

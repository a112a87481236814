use Rattle.pdu_core.proofs.ElseFault.{pdu_else_fault, sv_pdu_else_fault}
use Rattle.pdu_core.proofs.OneReading.{pdu_is_one, pdu_or_fault, fault_is_one}
use Rattle.pdu_core.proofs.SvOneReading.{sv_pdu_is_one, sv_pdu_or_fault, sv_fault_is_one}
use Rattle.pdu_core.proofs.laws.one_reading.Goals as goal

pub returns-clause-pdu : goal.returns-clause-pdu
returns-clause-pdu g c = pdu_is_one

pub returns-clause-either : goal.returns-clause-either
returns-clause-either g c = pdu_or_fault

pub returns-clause-fault : goal.returns-clause-fault
returns-clause-fault g c = fault_is_one

pub returns-clause-sv_pdu : goal.returns-clause-sv_pdu
returns-clause-sv_pdu g c = sv_pdu_is_one

pub returns-clause-sv_either : goal.returns-clause-sv_either
returns-clause-sv_either g c = sv_pdu_or_fault

pub returns-clause-sv_fault : goal.returns-clause-sv_fault
returns-clause-sv_fault g c = sv_fault_is_one

pub returns-clause-else_fault : goal.returns-clause-else_fault
returns-clause-else_fault g c = pdu_else_fault

pub returns-clause-sv_else_fault : goal.returns-clause-sv_else_fault
returns-clause-sv_else_fault g c = sv_pdu_else_fault

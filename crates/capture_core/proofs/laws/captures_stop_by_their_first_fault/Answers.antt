use Rattle.capture_core.proofs.FaultyCaptures.{ended_whole_or_faulty, first_fault_ends_events, first_fault_one, first_fault_read, read_fault_first}
use Rattle.capture_core.proofs.laws.captures_stop_by_their_first_fault.Goals as goal

pub returns-clause-read : goal.returns-clause-read
returns-clause-read g c = first_fault_read

pub returns-clause-events : goal.returns-clause-events
returns-clause-events g c = first_fault_ends_events

pub returns-clause-first : goal.returns-clause-first
returns-clause-first g c = read_fault_first

pub returns-clause-one : goal.returns-clause-one
returns-clause-one g c = first_fault_one

pub returns-clause-either : goal.returns-clause-either
returns-clause-either g c = ended_whole_or_faulty

-- How a run ends: by which fault, and with which exit status.
use Rattle.std.specs.Prelude.{ℕ, Bool, true, false, if◌then◌else◌}
use Rattle.engine_core.specs.declared.ending.Ending.{Ending}
use Rattle.engine_core.specs.declared.ending.Ending.TheVariants.{Done, Findings, InputFault, ReadFault, WriteFault, Memory}

-- 0 is done and 1 findings; from 3 on the run failed: at its input, at a device, for want of memory
abbrev pub status_of : Ending → ℕ
status_of Done = 0
status_of Findings = 1
status_of InputFault = 3
status_of ReadFault = 4
status_of WriteFault = 4
status_of Memory = 5

-- a fault is the reader's where its source failed, and else the input's
abbrev pub ending_by_fault : {F : Type 0} → (F → Bool) → F → Ending
ending_by_fault failed fault = if failed fault then ReadFault else InputFault

-- whether a run ended because its writer failed
abbrev pub is_write_fault : Ending → Bool
is_write_fault Done = false
is_write_fault Findings = false
is_write_fault InputFault = false
is_write_fault ReadFault = false
is_write_fault WriteFault = true
is_write_fault Memory = false

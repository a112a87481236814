-- The short lines: of a clock moment, of a faulty frame, and the last one, of a fault of the input.
use Rattle.std.specs.Prelude.{ℕ, List, ◌++◌, codes}
use Rattle.std.specs.Fmt.{decimal}
use Rattle.ber_core.specs.declared.fault.Fault.{Fault}
use Rattle.list_core.specs.declared.list_fault.ListFault.{ListFault}
use Rattle.capture_core.specs.declared.capture_fault.CaptureFault.{CaptureFault}
use Rattle.text_core.specs.CaptureNames.{name_of_capture_cause}
use Rattle.text_core.specs.Names.{name_of_cause, name_of_list_cause}

-- the number of the line and the moment in microseconds
abbrev pub clock_line : ℕ → ℕ → List ℕ
clock_line n moment = decimal n ++ codes " clock " ++ decimal moment ++ codes "\n"

-- the number of the line, and the place and cause of the frame's fault
abbrev pub fault_line : ℕ → Fault → List ℕ
fault_line n f = decimal n ++ codes " fault " ++ decimal f.place ++ (codes " " ++ name_of_cause f.cause) ++ codes "\n"

-- the number of the bad line and its cause
abbrev pub list_fault_line : ListFault → List ℕ
list_fault_line f = decimal f.line ++ codes " list " ++ name_of_list_cause f.cause ++ codes "\n"

-- the number of the packet and the cause of the capture's fault
abbrev pub capture_line : CaptureFault → List ℕ
capture_line f = decimal f.number ++ codes " capture " ++ name_of_capture_cause f.cause ++ codes "\n"

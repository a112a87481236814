-- What the objects of events begin with, and the objects of faults.
use Rattle.std.specs.Prelude.{ℕ, List, [], ◌∷◌, ◌++◌, codes}
use Rattle.std.specs.Fmt.{decimal}
use Rattle.ber_core.specs.declared.fault.Fault.{Fault}
use Rattle.list_core.specs.declared.list_fault.ListFault.{ListFault}
use Rattle.capture_core.specs.declared.capture_fault.CaptureFault.{CaptureFault}
use Rattle.text_core.specs.CaptureNames.{name_of_capture_cause}
use Rattle.text_core.specs.Names.{name_of_cause, name_of_list_cause}
use Rattle.object_core.specs.declared.counted.Counted.{Counted}
use Rattle.object_core.specs.declared.counted.Counted.TheVariants as counted
use Rattle.object_core.specs.Objects.{Field, object_line, in_quotes, date_value}

-- what the number of an event counts
abbrev pub counted_name : Counted → List ℕ
counted_name counted.Line = codes "line"
counted_name counted.Packet = codes "packet"

-- the number of an event, its moment in microseconds since 1970, the date of it, and what is told of it
abbrev pub event_fields : Counted → ℕ → ℕ → List ℕ → List Field
event_fields c number moment kind =
    (counted_name c, decimal number) ∷ (codes "microseconds", decimal moment) ∷ (codes "time", date_value moment) ∷ (codes "kind", in_quotes kind) ∷ []

-- the place and the cause of a frame's fault
abbrev pub fault_fields : Fault → List Field
fault_fields f = (codes "offset", decimal f.place) ∷ (codes "error", in_quotes (name_of_cause f.cause)) ∷ []

-- the object of a faulty frame
abbrev pub fault_object : Counted → ℕ → ℕ → Fault → List ℕ
fault_object c number moment f = object_line (event_fields c number moment (codes "fault") ++ fault_fields f)

-- the object of a bad line
abbrev pub list_fault_object : ListFault → List ℕ
list_fault_object f = object_line ((codes "line", decimal f.line) ∷ (codes "kind", in_quotes (codes "list")) ∷ (codes "error", in_quotes (name_of_list_cause f.cause)) ∷ [])

-- the object of a capture's fault
abbrev pub capture_fault_object : CaptureFault → List ℕ
capture_fault_object f =
    object_line ((codes "packet", decimal f.number) ∷ (codes "kind", in_quotes (codes "capture")) ∷ (codes "error", in_quotes (name_of_capture_cause f.cause)) ∷ [])

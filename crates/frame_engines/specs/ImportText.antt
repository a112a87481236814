-- The text of `import`: a capture as a list of version 2, of which each record is the line of its frame, or a comment where no list can hold it.
use Rattle.std.specs.Prelude.{◌≡◌, ◌≤◌, ◌⊎◌, ℕ, Bool, true, false, not, ◌&&◌, nat_le, nat_lt, List, [], ◌++◌, length, Option, Some, None, codes, if◌then◌else◌}
use Rattle.std.specs.List.{flat_map, list_any}
use Rattle.std.specs.Fmt.{decimal}
use Rattle.std.specs.Io.KnownBytes.{Appends}
use Rattle.list_core.specs.declared.device.InputEnd.{InputEnd}
use Rattle.list_core.specs.Device.{AppendsPrefix}
use Rattle.list_core.specs.EventText.{event_text}
use Rattle.list_core.specs.Lines.{Stop, finished, unfinished, faulty}
use Rattle.list_core.specs.declared.event.EventKind.TheVariants.{Frame}
use Rattle.capture_core.specs.Capture.{Capture, CaptureRecord, capture, records_after}
use Rattle.capture_core.specs.Packets.{is_failed_read}
use Rattle.capture_core.specs.RecordAnswers.{WithinRecord}
use Rattle.capture_core.specs.declared.form.CaptureForm.{CaptureForm}
use Rattle.capture_core.specs.declared.capture_fault.CaptureFault.{CaptureFault}
use Rattle.engine_core.specs.Ending.{ending_by_fault}
use Rattle.engine_core.specs.RunOver.{IsUntouched}
use Rattle.engine_core.specs.declared.ending.Ending.{Ending}
use Rattle.engine_core.specs.declared.ending.Ending.TheVariants.{Done, Findings, InputFault, ReadFault, WriteFault, Memory}
use Rattle.text_core.specs.LineText.{capture_line}

-- whether a record is left out, since a list has frames of 1 to 2,000 octets alone
abbrev pub is_left_out : ℕ × CaptureRecord → Bool
is_left_out r = not (nat_lt 0 (length r.1.octets) && nat_le (length r.1.octets) 2000)

-- the comment on a record of so many octets that is left out
abbrev pub left_out_line : ℕ → ℕ → List ℕ
left_out_line n size = codes "# record " ++ decimal n ++ codes " of " ++ decimal size ++ codes " octets left out\n"

-- the line of a frame at a moment
abbrev pub imported_line : ℕ → List ℕ → List ℕ
imported_line moment octets = event_text {A = Unit {0}} (record { moment = moment; kind = Frame octets })

-- the line of a record
abbrev pub record_line : ℕ × CaptureRecord → List ℕ
record_line r = if is_left_out r then left_out_line r.0 (length r.1.octets) else imported_line r.1.moment r.1.octets

-- the last line, on a fault: that of the fault as a comment
abbrev pub capture_fault_line : CaptureFault → List ℕ
capture_fault_line f = codes "# " ++ capture_line f

-- records before others
abbrev pub put_records : List (ℕ × CaptureRecord) → Capture → Capture
put_records rs c = record { records = rs ++ c.records; stop = c.stop }

-- what is written last: nothing, unless there is a fault
abbrev pub last_line : Stop CaptureFault → List ℕ
last_line finished = []
last_line unfinished = []
last_line (faulty f) = capture_fault_line f

-- the text behind the first line
abbrev pub text_behind : Capture → List ℕ
text_behind c = flat_map record_line c.records ++ last_line c.stop

-- the whole text
abbrev pub import_text : Capture → List ℕ
import_text c = codes "V2\n" ++ text_behind c

-- A record of the octets given, or what stands in its place: before it stand the header and these records. From its start on stand at most the octets of one record, and they read as the records after `number` others.
pub record AtRecord (z : InputEnd) (given : List ℕ) (records : List (ℕ × CaptureRecord)) : Type 0 where
  pub number : ℕ
  pub form : CaptureForm
  pub front : List ℕ
  pub rest : List ℕ
  pub parts : given ≡ front ++ rest
  pub few : WithinRecord form number rest
  pub earlier : capture z given ≡ put_records records (records_after form z number rest)

-- the last octets given are those of the header, or of the record behind these
abbrev pub EndsBehind : InputEnd → List ℕ → List (ℕ × CaptureRecord) → Type 0
EndsBehind z given records = ((records ≡ []) × (length given ≤ 24)) ⊎ AtRecord z given records

-- The capture has a fault with this ending, the whole text was written, and nothing was read behind the record of the fault.
pub record ImportsToFault (ending : Ending) (z : InputEnd) (given : List ℕ) (old new : Option (List ℕ)) : Type 0 where
  pub why : CaptureFault
  pub has_fault : (capture z given).stop ≡ faulty why
  pub has_ending : ending_by_fault is_failed_read why ≡ ending
  pub written : Appends old new (import_text (capture z given))
  pub none_behind : EndsBehind z given (capture z given).records

-- The capture has no fault, a record was left out or none was, and the whole text was written.
pub record ImportsToEnd (found : Bool) (c : Capture) (old new : Option (List ℕ)) : Type 0 where
  pub capture_ends : c.stop ≡ finished
  pub finds : list_any is_left_out c.records ≡ found
  pub written : Appends old new (import_text c)

-- The writer failed behind the lines of some records, at the next one: what was read ends with its record.
pub record FailsBehind (z : InputEnd) (given : List ℕ) (old new : Option (List ℕ)) : Type 0 where
  pub records : List (ℕ × CaptureRecord)
  pub others : Capture
  pub says : capture z given ≡ put_records records others
  pub none_behind : EndsBehind z given records
  -- what the writer holds before that line
  pub held : Option (List ℕ)
  pub written : Appends old held (codes "V2\n" ++ flat_map record_line records)
  pub next : AppendsPrefix held new (text_behind others)

-- A prefix of the text of these octets was written; the reader, which told such an ending before, is untouched, or the first line and those of some records had been written whole.
pub record ImportsPrefix (before z : InputEnd) (given : List ℕ) (old new : Option (List ℕ)) : Type 0 where
  pub prefix : AppendsPrefix old new (import_text (capture z given))
  pub fails_at : IsUntouched before z given ⊎ FailsBehind z given old new

-- What `import` leaves written of the octets that a reader gave, with the endings that it told before and tells after: the whole text at
-- Done and Findings, and at InputFault and ReadFault, where nothing is read behind the record of the fault; a prefix of it at WriteFault. It
-- never wants memory.
abbrev pub Imports : InputEnd → Ending → InputEnd → List ℕ → Option (List ℕ) → Option (List ℕ) → Type 0
Imports before Done z given old new = ImportsToEnd false (capture z given) old new
Imports before Findings z given old new = ImportsToEnd true (capture z given) old new
Imports before InputFault z given old new = ImportsToFault InputFault z given old new
Imports before ReadFault z given old new = ImportsToFault ReadFault z given old new
Imports before WriteFault z given old new = ImportsPrefix before z given old new
Imports before Memory z given old new = ⊥

-- the fault by which an import ended, if it ended by one
abbrev pub import_ended_by : (before : InputEnd) (ending : Ending) (z : InputEnd) (given : List ℕ) (old new : Option (List ℕ)) → Imports before ending z given old new → Option CaptureFault
import_ended_by before Done z given old new ends = None
import_ended_by before Findings z given old new ends = None
import_ended_by before InputFault z given old new ends = Some ends.why
import_ended_by before ReadFault z given old new ends = Some ends.why
import_ended_by before WriteFault z given old new ends = None
import_ended_by before Memory z given old new ends = None

-- what `import` leaves written of the octets that a reader gave, and the fault by which it ended
abbrev pub ImportsTo : InputEnd → Ending → InputEnd → List ℕ → Option (List ℕ) → Option (List ℕ) → Option CaptureFault → Type 0
ImportsTo before ending z given old new fault = (imported : Imports before ending z given old new) × (fault ≡ import_ended_by before ending z given old new imported)

-- A replay of a capture, of any length.
use Rattle.std.specs.Prelude.{◌≡◌, ◌↔◌, ℕ, List, [], ◌++◌, slice_get, Contains, Option, Some, None}
use Rattle.std.specs.Io.KnownBytes.{Appends}
use Rattle.list_core.specs.declared.device.InputEnd.{InputEnd}
use Rattle.list_core.specs.declared.event.Event.{Event}
use Rattle.list_core.specs.Device.{AppendsPrefix}
use Rattle.list_core.specs.Items.{Numbered}
use Rattle.list_core.specs.Lines.{Stop, finished, unfinished, faulty}
use Rattle.mms_data.specs.Data.{Data}
use Rattle.mms_data.specs.declared.time.UtcTime.{UtcTime}
use Rattle.capture_core.specs.declared.capture_fault.CaptureFault.{CaptureFault}
use Rattle.capture_core.specs.Captured.{captured_events}
use Rattle.capture_core.specs.Packets.{is_failed_read}
use Rattle.block_core.specs.declared.block.Block.{Block}
use Rattle.subscribe_core.specs.declared.entry.Entry.{Entry}
use Rattle.subscribe_core.specs.declared.entry.Entry.TheVariants as says
use Rattle.subscribe_core.specs.Apart.{AreApart}
use Rattle.subscribe_core.specs.Entries.{AreEntries}
use Rattle.subscribe_core.specs.EventsRead.{AreRead, EventRead}
use Rattle.subscribe_core.specs.Laws.{IsActOn}
use Rattle.text_core.specs.LineText.{capture_line}
use Rattle.object_core.specs.declared.counted.Form.TheVariants as forms
use Rattle.object_core.specs.EventObject.{capture_fault_object}
use Rattle.engine_core.specs.declared.ending.Ending.{Ending}
use Rattle.engine_core.specs.declared.ending.Ending.TheVariants.{Done, Findings, InputFault, ReadFault, WriteFault, Memory}
use Rattle.engine_core.specs.declared.style.Style.TheVariants.{Lines}
use Rattle.engine_core.specs.Ending.{ending_by_fault}
use Rattle.engine_core.specs.EventsText.{fault_text, over_in}
use Rattle.engine_core.specs.CaptureRun.{CaptureText, capture_input}
use Rattle.engine_core.specs.MadeRun.{made, with_each}
use Rattle.engine_core.specs.RunOver.{Leaves}
use Rattle.exchange_engines.specs.ReplayText.{AreSaid, Says, entries_in, events_of}
use Rattle.joint_laws.specs.ListedBlocks.{lines_at}

-- what a replay may write of a capture in lines, where the events have these entries
abbrev pub replay_lines : {A : Type 0} → List (Block A) → Says A → CaptureText A
replay_lines blocks said = over_in (Lines forms.Text) (entries_in blocks said) (fault_text capture_line capture_fault_object)

-- the line of the fault by which a capture stops, if it does
abbrev pub fault_lines : Stop CaptureFault → List ℕ
fault_lines finished = []
fault_lines unfinished = []
fault_lines (faulty f) = capture_line f

-- the lines of the entries of a capture's events, each with the number of its packet, and the line of its fault
abbrev pub capture_lines : {A : Type 0} → Numbered (Event A) CaptureFault → List (List (Entry A)) → List ℕ
capture_lines l entries = lines_at l.items entries ++ fault_lines l.stop

-- all these lines stand written, and the run ended as the capture does: no fault is handed out
pub record EndsWithCapture {A : Type 0} (l : Numbered (Event A) CaptureFault) (entries : List (List (Entry A))) (fault : Option CaptureFault) (old new : Option (List ℕ)) : Type 0 where
  pub ends : l.stop ≡ finished
  pub by_none : fault ≡ None
  pub written : Appends old new (capture_lines l entries)

-- all these lines stand written, and the run ended by the capture's fault, which is handed out and has this ending
pub record EndsByItsFault {A : Type 0} (l : Numbered (Event A) CaptureFault) (entries : List (List (Entry A))) (ending : Ending) (fault : Option CaptureFault) (old new : Option (List ℕ)) : Type 0 where
  pub why : CaptureFault
  pub ends : l.stop ≡ faulty why
  pub by : fault ≡ Some why
  pub has_ending : ending_by_fault is_failed_read why ≡ ending
  pub written : Appends old new (capture_lines l entries)

-- what stands written of these lines by the ending: all at the end of the capture and by its fault, and else a prefix; nothing is a finding
abbrev pub LeavesLines : {A : Type 0} → Numbered (Event A) CaptureFault → List (List (Entry A)) → Ending → Option CaptureFault → Option (List ℕ) → Option (List ℕ) → Type 0
LeavesLines l entries Done fault old new = EndsWithCapture l entries fault old new
LeavesLines l entries Findings fault old new = ⊥
LeavesLines l entries InputFault fault old new = EndsByItsFault l entries InputFault fault old new
LeavesLines l entries ReadFault fault old new = EndsByItsFault l entries ReadFault fault old new
LeavesLines l entries WriteFault fault old new = (fault ≡ None) × AppendsPrefix old new (capture_lines l entries)
LeavesLines l entries Memory fault old new = (fault ≡ None) × AppendsPrefix old new (capture_lines l entries)

-- The actions among the entries of each event are exactly those of the blocks that act on it: of which its frame is a good one, with a status number above those of all good ones before it in their epoch.
abbrev pub ActExactly : {A : Type 0} → List (Block A) → List (Event A) → List (List (Entry A)) → Type 0
ActExactly {A} blocks events entries =
    (readings : List EventRead) → AreRead events readings → (i : ℕ) (es : List (Entry A)) → slice_get entries i ≡ Some es →
    (b state sequence : ℕ) (t : UtcTime) (members : List Data) →
    Contains es (says.Act b state sequence t members) ↔ IsActOn blocks readings i b (says.Act b state sequence t members)

-- A capture is replayed: the events that it tells have these entries, whose lines are left written, and which act exactly.
pub record IsReplayed {A : Type 0} (blocks : List (Block A)) (l : Numbered (Event A) CaptureFault) (ending : Ending) (fault : Option CaptureFault) (old new : Option (List ℕ)) : Type 0 where
  pub entries : List (List (Entry A))
  pub are_entries : AreEntries blocks (events_of l.items) entries
  pub written : LeavesLines l entries ending fault old new
  pub acts : ActExactly blocks (events_of l.items) entries

-- what a replay with blocks that are apart leaves written of a capture, or of what is made of each of its events, is that
abbrev pub CapturesAreReplayed : Type 0 → Type 0
CapturesAreReplayed A =
    (blocks : List (Block A)) (said : Says A) (make : Event A → Event A) (ending : Ending) (z : InputEnd) (read : List ℕ) (fault : Option CaptureFault) (old new : Option (List ℕ)) →
    AreApart blocks → AreSaid blocks said → Leaves (made make capture_input) (replay_lines blocks said) ending fault z read old new →
    IsReplayed blocks (with_each make (captured_events z read)) ending fault old new

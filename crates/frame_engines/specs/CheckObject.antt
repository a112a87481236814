-- The objects of `check`: a line for each note on a frame.
use Rattle.std.specs.Prelude.{ℕ, Bool, true, false, List, [], ◌++◌, Result, Ok, Err, codes}
use Rattle.ber_core.specs.declared.fault.Fault.{Fault}
use Rattle.list_core.specs.declared.event.EventKind.{EventKind}
use Rattle.list_core.specs.declared.event.EventKind.TheVariants as kinds
use Rattle.frame_core.specs.declared.frame.Frame.{Frame}
use Rattle.frame_core.specs.computed.FrameReading.{frame_at}
use Rattle.object_core.specs.declared.counted.Counted.{Counted}
use Rattle.object_core.specs.declared.counted.Form.{Form}
use Rattle.object_core.specs.declared.counted.Form.TheVariants.{Text, Object}
use Rattle.object_core.specs.EventObject.{event_fields, fault_object}
use Rattle.object_core.specs.Objects.{object_line}
use Rattle.engine_core.specs.EventsText.{EventText}
use Rattle.frame_engines.specs.CheckText.{goes_where_recommended, has_text, is_form, notes}
use Rattle.frame_engines.specs.WrittenForm.{fitting_form}

-- the object of a note on the frame of an event
abbrev pub note_object : Counted → ℕ → ℕ → List ℕ → List ℕ
note_object counted n moment kind = object_line (event_fields counted n moment kind)

-- that object where something does not hold
abbrev pub note_object_unless : Bool → Counted → ℕ → ℕ → List ℕ → List ℕ
note_object_unless true counted n moment kind = []
note_object_unless false counted n moment kind = note_object counted n moment kind

-- what is noted of octets, which read so: the fault; or that they are not the written form, and then that the destination is not a recommended one
abbrev pub frame_note_objects : {A : Type 0} → Counted → ℕ → ℕ → List ℕ → Result (Frame A) Fault → List ℕ
frame_note_objects counted n moment octets (Err f) = fault_object counted n moment f
frame_note_objects counted n moment octets (Ok f) =
    note_object_unless (is_form (fitting_form (Ok f)) octets) counted n moment (codes "not-written")
    ++ note_object_unless (goes_where_recommended f) counted n moment (codes "destination")

-- what is noted of an event: nothing of the clock and of modes
abbrev pub kind_note_objects : {A : Type 0} → Counted → ℕ → ℕ → EventKind A → List ℕ
kind_note_objects counted n moment kinds.Clock = []
kind_note_objects counted n moment (kinds.Mode on) = []
kind_note_objects counted n moment (kinds.Frame octets) = frame_note_objects {A = Unit {0}} counted n moment octets (frame_at octets)

-- what is noted of an event in a form
abbrev pub notes_in : {A : Type 0} → Form → ℕ → ℕ → EventKind A → List ℕ
notes_in Text n moment kind = notes n kind
notes_in (Object counted) n moment kind = kind_note_objects counted n moment kind

-- what `check` writes of an event in a form; one with a note is a finding
abbrev pub check_event_in : {A : Type 0} → Form → EventText A
check_event_in form before e = (notes_in form e.0 e.1.moment e.1.kind, has_text (notes_in form e.0 e.1.moment e.1.kind))

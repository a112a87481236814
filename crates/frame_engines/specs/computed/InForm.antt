-- What is written of a frame or an event in a form: a line of text, or an object.
use Rattle.std.specs.Prelude.{◌≡◌, ℕ, Bool, List, Result, codes}
use Rattle.ber_core.specs.declared.fault.Fault.{Fault}
use Rattle.list_core.specs.declared.event.EventKind.{EventKind}
use Rattle.frame_core.specs.declared.frame.Frame.{Frame}
use Rattle.frame_core.specs.computed.FrameReading.{frame_at}
use Rattle.object_core.specs.declared.counted.Form.{Form}
use Rattle.object_core.specs.declared.counted.Form.TheVariants.{Text, Object}
use Rattle.frame_engines.specs.declared.engines.check.Note.{Note}
use Rattle.frame_engines.specs.declared.engines.check.Note.TheVariants.{NotWritten, Destination}
use Rattle.frame_engines.specs.CheckObject.{frame_note_objects, note_object_unless}
use Rattle.frame_engines.specs.CheckText.{frame_notes, note_unless}
use Rattle.frame_engines.specs.ShowObject.{IsAnswerObject, IsKindObject}
use Rattle.frame_engines.specs.ShowText.{answer_line, kind_line}

-- of the frame that octets spell, or of the fault that they have
abbrev pub IsAnswerIn : {A : Type 0} → Form → ℕ → ℕ → Result (Frame A) Fault → List ℕ → Type 0
IsAnswerIn Text n moment answer text = text ≡ answer_line n answer
IsAnswerIn (Object counted) n moment answer text = IsAnswerObject counted n moment answer text

-- of an event
abbrev pub IsKindIn : {A : Type 0} → Form → ℕ → ℕ → EventKind A → List ℕ → Type 0
IsKindIn Text n moment kind text = text ≡ kind_line n moment kind
IsKindIn (Object counted) n moment kind text = IsKindObject counted n moment kind text

-- the end of the line of a note
abbrev pub note_end : Note → List ℕ
note_end NotWritten = codes " not-written\n"
note_end Destination = codes " destination\n"

-- its kind
abbrev pub note_kind : Note → List ℕ
note_kind NotWritten = codes "not-written"
note_kind Destination = codes "destination"

-- of a note, where something does not hold
abbrev pub note_in : Form → ℕ → ℕ → Note → Bool → List ℕ
note_in Text n moment note holds = note_unless holds n (note_end note)
note_in (Object counted) n moment note holds = note_object_unless holds counted n moment (note_kind note)

-- of what is noted of octets, which read so
abbrev pub frame_notes_in : {A : Type 0} → Form → ℕ → ℕ → List ℕ → Result (Frame A) Fault → List ℕ
frame_notes_in Text n moment octets answer = frame_notes n octets answer
frame_notes_in (Object counted) n moment octets answer = frame_note_objects counted n moment octets answer

-- of what is noted of the octets of a frame
abbrev pub octets_notes_in : Form → ℕ → ℕ → List ℕ → List ℕ
octets_notes_in form n moment octets = frame_notes_in {A = Unit {0}} form n moment octets (frame_at octets)

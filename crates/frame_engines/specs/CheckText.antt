-- The text of `check`: a line for each note on a frame.
use Rattle.std.specs.Prelude.{ℕ, List, [], ◌∷◌, ◌++◌, Bool, true, false, ◌&&◌, nat_le, Option, Some, None, Result, Ok, Err, codes}
use Rattle.std.specs.Fmt.{decimal}
use Rattle.std.specs.Str.{bytes_eq}
use Rattle.byteorder.specs.Endian.{big_number}
use Rattle.ber_core.specs.declared.fault.Fault.{Fault}
use Rattle.list_core.specs.declared.event.Event.{Event}
use Rattle.list_core.specs.declared.event.EventKind.{EventKind}
use Rattle.list_core.specs.declared.event.EventKind.TheVariants as kinds
use Rattle.frame_core.specs.declared.frame.Apdu.{Apdu}
use Rattle.frame_core.specs.declared.frame.Apdu.TheVariants as apdus
use Rattle.frame_core.specs.declared.frame.Frame.{Frame}
use Rattle.list_core.specs.declared.list_fault.ListCause.{ListCause}
use Rattle.frame_core.specs.computed.FrameReading.{frame_at}
use Rattle.list_core.specs.ListReader.{list_fault_of}
use Rattle.engine_core.specs.EngineText.{Text}
use Rattle.engine_core.specs.EventsText.{EventText, over_events}
use Rattle.text_core.specs.LineText.{fault_line, list_fault_line}
use Rattle.frame_engines.specs.WrittenForm.{fitting_form}

-- the number of six octets, the first the most significant
abbrev pub address : List ℕ → ℕ
address octets = big_number 6 octets

-- the recommended destinations of GOOSE, 01-0C-CD-01-00-00 to 01-0C-CD-01-01-FF (IEC 61850-8-1), and of Sampled Values, 01-0C-CD-04-00-00 to 01-0C-CD-04-01-FF (IEC 61850-9-2)
abbrev pub is_recommended_for : {A : Type 0} → Apdu A → ℕ → Bool
is_recommended_for (apdus.Goose p) to = nat_le 0x010CCD010000 to && nat_le to 0x010CCD0101FF
is_recommended_for (apdus.Sampled p) to = nat_le 0x010CCD040000 to && nat_le to 0x010CCD0401FF

-- the frame is sent to a destination that is recommended for what it carries
abbrev pub goes_where_recommended : {A : Type 0} → Frame A → Bool
goes_where_recommended f = is_recommended_for f.apdu (address f.destination)

-- the octets are those of this written form; there may be none that fits
abbrev pub is_form : Option (List ℕ) → List ℕ → Bool
is_form (Some form) octets = bytes_eq form octets
is_form None octets = false

-- a line with this word where something does not hold
abbrev pub note_unless : Bool → ℕ → List ℕ → List ℕ
note_unless true n word = []
note_unless false n word = decimal n ++ word

-- what is noted of octets, which read so: the fault; or that they are not the written form, and then that the destination is not a recommended one
abbrev pub frame_notes : {A : Type 0} → ℕ → List ℕ → Result (Frame A) Fault → List ℕ
frame_notes n octets (Err f) = fault_line n f
frame_notes n octets (Ok f) =
    note_unless (is_form (fitting_form (Ok f)) octets) n (codes " not-written\n") ++ note_unless (goes_where_recommended f) n (codes " destination\n")

-- what is noted of the octets of a frame
abbrev pub octets_notes : ℕ → List ℕ → List ℕ
octets_notes n octets = frame_notes {A = Unit {0}} n octets (frame_at octets)

-- what is noted of an event: nothing of the clock and of modes
abbrev pub notes : {A : Type 0} → ℕ → EventKind A → List ℕ
notes n kinds.Clock = []
notes n (kinds.Mode on) = []
notes n (kinds.Frame octets) = octets_notes n octets

-- whether there is a text
abbrev pub has_text : List ℕ → Bool
has_text [] = false
has_text (c ∷ text) = true

-- what `check` writes of an event; one with a note is a finding
abbrev pub check_event : {A : Type 0} → EventText A
check_event before e = (notes e.0 e.1.kind, has_text (notes e.0 e.1.kind))

-- the text of `check` over a list
abbrev pub check_text : {A : Type 0} → Text (Event A) ListCause
check_text = over_events check_event (λ f. list_fault_line (list_fault_of f))

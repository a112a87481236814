-- The text of `show`: one line an event.
use Rattle.std.specs.Prelude.{ℕ, List, ◌++◌, codes, false, Result, Ok, Err}
use Rattle.std.specs.Fmt.{decimal}
use Rattle.list_core.specs.declared.event.Event.{Event}
use Rattle.list_core.specs.declared.list_fault.ListCause.{ListCause}
use Rattle.list_core.specs.EventText.{mode_text}
use Rattle.list_core.specs.ListReader.{list_fault_of}
use Rattle.ber_core.specs.declared.fault.Fault.{Fault}
use Rattle.list_core.specs.declared.event.EventKind.{EventKind}
use Rattle.list_core.specs.declared.event.EventKind.TheVariants.{Frame, Clock, Mode}
use Rattle.frame_core.specs.declared.frame.Frame as frames
use Rattle.frame_core.specs.computed.FrameReading.{frame_at}
use Rattle.text_core.specs.LineText.{clock_line, fault_line, list_fault_line}
use Rattle.frame_engines.specs.FrameText.{frame_line}
use Rattle.engine_core.specs.EngineText.{Text}
use Rattle.engine_core.specs.EventsText.{EventText, over_events}

-- the line of the frame that octets spell, or of the fault that they have
abbrev pub answer_line : {A : Type 0} → ℕ → Result (frames.Frame A) Fault → List ℕ
answer_line n (Ok f) = frame_line n f
answer_line n (Err f) = fault_line n f

-- the line of the octets of a frame
abbrev pub octets_line : ℕ → List ℕ → List ℕ
octets_line n octets = answer_line {A = Unit {0}} n (frame_at octets)

-- the line of an event: of a clock moment, of the octets of a frame, or of a mode
abbrev pub kind_line : {A : Type 0} → ℕ → ℕ → EventKind A → List ℕ
kind_line n moment Clock = clock_line n moment
kind_line n moment (Frame octets) = octets_line n octets
kind_line n moment (Mode on) = decimal n ++ codes " mode " ++ decimal moment ++ codes " " ++ mode_text on ++ codes "\n"

-- what `show` writes of an event, which is no finding
abbrev pub show_event : {A : Type 0} → EventText A
show_event before e = (kind_line e.0 e.1.moment e.1.kind, false)

-- the text of `show` over a list
abbrev pub show_text : {A : Type 0} → Text (Event A) ListCause
show_text = over_events show_event (λ f. list_fault_line (list_fault_of f))

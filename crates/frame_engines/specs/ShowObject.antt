-- The objects of `show`: one line an event.
use Rattle.std.specs.Prelude.{◌≡◌, ℕ, Bool, false, List, [], ◌∷◌, ◌++◌, Result, Ok, Err, codes}
use Rattle.ber_core.specs.declared.fault.Fault.{Fault}
use Rattle.list_core.specs.declared.event.Event.{Event}
use Rattle.list_core.specs.declared.event.EventKind.{EventKind}
use Rattle.list_core.specs.declared.event.EventKind.TheVariants.{Frame, Clock, Mode}
use Rattle.list_core.specs.EventText.{mode_text}
use Rattle.frame_core.specs.declared.frame.Frame as frames
use Rattle.frame_core.specs.computed.FrameReading.{frame_at}
use Rattle.object_core.specs.declared.counted.Counted.{Counted}
use Rattle.object_core.specs.declared.counted.Form.{Form}
use Rattle.object_core.specs.declared.counted.Form.TheVariants.{Text, Object}
use Rattle.object_core.specs.EventObject.{event_fields, fault_object}
use Rattle.object_core.specs.Objects.{in_quotes, object_line}
use Rattle.engine_core.specs.EventsText.{EventAllows, exactly_event}
use Rattle.frame_engines.specs.FrameObject.{IsFrameObject}
use Rattle.frame_engines.specs.ShowText.{show_event}

-- the object of a clock moment
abbrev pub clock_object : Counted → ℕ → ℕ → List ℕ
clock_object counted n moment = object_line (event_fields counted n moment (codes "clock"))

-- the object of a mode
abbrev pub mode_object : Counted → ℕ → ℕ → Bool → List ℕ
mode_object counted n moment on = object_line (event_fields counted n moment (codes "mode") ++ (codes "mode", in_quotes (mode_text on)) ∷ [])

-- an object of the frame that octets spell, or that of the fault that they have
abbrev pub IsAnswerObject : {A : Type 0} → Counted → ℕ → ℕ → Result (frames.Frame A) Fault → List ℕ → Type 0
IsAnswerObject counted n moment (Ok f) text = IsFrameObject counted n moment f text
IsAnswerObject counted n moment (Err f) text = text ≡ fault_object counted n moment f

-- an object of the octets of a frame
abbrev pub IsOctetsObject : Counted → ℕ → ℕ → List ℕ → List ℕ → Type 0
IsOctetsObject counted n moment octets text = IsAnswerObject {A = Unit {0}} counted n moment (frame_at octets) text

-- an object of an event: of a clock moment, of the octets of a frame, or of a mode
abbrev pub IsKindObject : {A : Type 0} → Counted → ℕ → ℕ → EventKind A → List ℕ → Type 0
IsKindObject counted n moment Clock text = text ≡ clock_object counted n moment
IsKindObject counted n moment (Frame octets) text = IsOctetsObject counted n moment octets text
IsKindObject counted n moment (Mode on) text = text ≡ mode_object counted n moment on

-- `show` writes this object of an event with this number
abbrev pub ShowsObject : {A : Type 0} → Counted → ℕ → Event A → List ℕ → Type 0
ShowsObject counted n e text = IsKindObject counted n e.moment e.kind text

-- what `show` may write of an event in a form, which is no finding
abbrev pub show_allows : {A : Type 0} → Form → EventAllows A
show_allows Text before e written = exactly_event show_event before e written
show_allows (Object counted) before e written = ShowsObject counted e.0 e.1 written.0 × (written.1 ≡ false)

-- What a task over the events of a list or of a capture leaves, and the fault that is told.
use Rattle.std.specs.Prelude.{◌≡◌, Bool, true, false, Option, option_map}
use Rattle.std.specs.Global.{Global}
use Rattle.list_core.specs.declared.event.Event.{Event}
use Rattle.list_core.specs.declared.event_lines.EventLines.TheVariants.{First}
use Rattle.list_core.specs.declared.line_rules.ItemFault.{ItemFault}
use Rattle.list_core.specs.declared.list_fault.ListCause.{ListCause}
use Rattle.list_core.specs.EventLine.{event_rules}
use Rattle.list_core.specs.ListReader.{list_fault_of}
use Rattle.capture_core.specs.declared.capture_fault.CaptureCause.{CaptureCause}
use Rattle.capture_core.specs.declared.capture_fault.CaptureFault.{CaptureFault}
use Rattle.frame_core.specs.SkipOther.{skip_other}
use Rattle.unwrap_core.specs.declared.unwrap.Changes.{Changes}
use Rattle.unwrap_core.specs.UnwrapEvents.{change_event}
use Rattle.text_core.specs.LineText.{capture_line, list_fault_line}
use Rattle.object_core.specs.EventObject.{capture_fault_object, list_fault_object}
use Rattle.engine_core.specs.declared.style.Style.{Style}
use Rattle.engine_core.specs.CaptureRun.{capture_input}
use Rattle.engine_core.specs.EventsText.{FaultText}
use Rattle.engine_core.specs.Input.{Input}
use Rattle.engine_core.specs.MadeRun.{made}
use Rattle.engine_core.specs.Run.{list_input}
use Rattle.exchange_engines.specs.declared.engines.replay.ReplayStop.{ReplayStop}
use Rattle.exchange_engines.specs.declared.engines.replay.ReplayStop.TheVariants as stops
use Rattle.words_core.specs.declared.option_words.Options.{Options}
use Rattle.task_engine.specs.declared.stop.Stop.{Stop}
use Rattle.task_engine.specs.declared.stop.Stop.TheVariants as stop
use Rattle.task_engine.specs.EventTasks.{Ended, TaskLeaves, Work, left_of}

-- ---- the inputs

-- how options ask events to be changed
abbrev pub changes_of : Options → Changes
changes_of options = record { unwraps = options.unwraps }

-- the events of an input, each changed as options ask for that: frames are unwrapped
abbrev pub unwrapped : {C F : Type 0} → Options → Input (Event Global) C F → Input (Event Global) C F
unwrapped options input = made (change_event (changes_of options)) input

-- the same, and then, where frames of other protocols are passed over, what is left of each event
abbrev pub looked_where : {C F : Type 0} → Bool → Options → Input (Event Global) C F → Input (Event Global) C F
looked_where true options input = made skip_other (unwrapped options input)
looked_where false options input = unwrapped options input

-- the events of an input as options say to look at them
abbrev pub looked_at : {C F : Type 0} → Options → Input (Event Global) C F → Input (Event Global) C F
looked_at options input = looked_where options.skips_other options input

-- the events of a list so
abbrev pub list_events : Options → Input (Event Global) ListCause (ItemFault ListCause)
list_events options = looked_at options (list_input event_rules First)

-- those of a capture
abbrev pub capture_events : Options → Input (Event Global) CaptureCause CaptureFault
capture_events options = looked_at options capture_input

-- how the fault of a list is written
abbrev pub list_last : FaultText (ItemFault ListCause)
list_last = record { line = λ f. list_fault_line (list_fault_of f); object = λ f. list_fault_object (list_fault_of f) }

-- that of a capture
abbrev pub capture_last : FaultText CaptureFault
capture_last = record { line = capture_line; object = capture_fault_object }

-- ---- the fault that is told

-- the fault of a list
abbrev pub of_list : ItemFault ListCause → Stop
of_list f = stop.List (list_fault_of f)

-- why a task over events stopped, where this is the fault of its input
abbrev pub of_stop : {F : Type 0} → (F → Stop) → ReplayStop F → Stop
of_stop of (stops.Input f) = of f
of_stop of (stops.SameBlockTwice position) = stop.SameBlockTwice position

-- what is told is why the task ended so, if it ended by something
abbrev pub Tells : {F : Type 0} → (F → Stop) → (Option F → Type 0) → Option Stop → Type 0
Tells {F} of EndsBy told = (by : Option F) × EndsBy by × (told ≡ option_map of by)

-- ---- what is left

-- what a task over an input of events leaves in a style, and what is told
abbrev pub EventsTell : {C F : Type 0} → (F → Stop) → Style → Work → Input (Event Global) C F → FaultText F → Ended → Option Stop → Type 0
EventsTell of style work input last end told = Tells (of_stop of) (λ by. TaskLeaves style work.manner work.asked (left_of style input last end) end.ending by end.old end.new) told

-- the same of a capture or of a list, looked at by options
abbrev pub InputTells : Bool → Options → Style → Work → Ended → Option Stop → Type 0
InputTells true options style work end told = EventsTell stop.Packet style work (capture_events options) capture_last end told
InputTells false options style work end told = EventsTell of_list style work (list_events options) list_last end told

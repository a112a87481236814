-- What a request leaves, how it ends, and the fault that is told.
use Rattle.std.specs.Prelude.{Bool, true, false, Option}
use Rattle.std.specs.Global.{Global}
use Rattle.list_core.specs.declared.device.InputEnd.TheVariants.{Open}
use Rattle.list_core.specs.declared.event_lines.EventLines.TheVariants as events
use Rattle.list_core.specs.declared.line_rules.ItemFault.{ItemFault}
use Rattle.list_core.specs.EventLine.{event_rules}
use Rattle.list_core.specs.Items.{Rules}
use Rattle.script_core.specs.declared.script.ScriptLines.TheVariants as scripts
use Rattle.script_core.specs.Script.{script_rules}
use Rattle.engine_core.specs.declared.style.Style.{Style}
use Rattle.engine_core.specs.declared.style.Style.TheVariants as styles
use Rattle.engine_core.specs.EngineText.{Text, exactly}
use Rattle.engine_core.specs.Run.{list_input}
use Rattle.engine_core.specs.RunOver.{Leaves, OfKind}
use Rattle.object_core.specs.declared.counted.Counted.TheVariants.{Line, Packet}
use Rattle.object_core.specs.declared.counted.Form.TheVariants as forms
use Rattle.frame_engines.specs.RewriteText.{rewrite_text}
use Rattle.frame_engines.specs.ImportText.{ImportsTo}
use Rattle.exchange_engines.specs.PublishText.{IsPublishText}
use Rattle.exchange_engines.specs.declared.engines.replay.ReplayManner.{ReplayManner}
use Rattle.words_core.specs.CommandLine.{Asked, rewrite, replay, publish, import}
use Rattle.words_core.specs.declared.option_words.Writing.{Writing}
use Rattle.words_core.specs.declared.option_words.Writing.TheVariants as writes
use Rattle.words_core.specs.declared.option_words.Options.{Options}
use Rattle.task_engine.specs.declared.stop.Stop.{Stop}
use Rattle.task_engine.specs.declared.stop.Stop.TheVariants as stop
use Rattle.task_engine.specs.EventTasks.{Ended, Work, plain_work}
use Rattle.task_engine.specs.InputText.{InputTells, Tells, of_list}

-- the style of a way to write, where an event's number is that of its packet or of its line
abbrev pub style_by : Bool → Writing → Style
style_by is_capture writes.Lines = styles.Lines forms.Text
style_by is_capture writes.Dated = styles.Dated
style_by true writes.Objects = styles.Lines (forms.Object Packet)
style_by false writes.Objects = styles.Lines (forms.Object Line)

-- the style that options ask for
abbrev pub style_of : Options → Style
style_of options = style_by options.is_capture options.writes

-- the manner of a replay that options ask for
abbrev pub manner_of : Options → ReplayManner
manner_of options = record { simulates = options.simulates; changes_alone = options.changes_alone }

-- a task by options: a replay in their manner
abbrev pub work_by : Options → Asked → Work
work_by options (replay blocks) = record { asked = replay blocks; manner = manner_of options }
work_by options asked = plain_work asked

-- what a task over events leaves by these options, and what is told
abbrev pub EventsWrite : Options → Work → Ended → Option Stop → Type 0
EventsWrite options work end told = InputTells options.is_capture options (style_of options) work end told

-- a run over a list leaves this text, and ended by this fault
abbrev pub LeavesText : {S X C : Type 0} → Rules S X C → S → Text X C → Ended → Option (ItemFault C) → Type 0
LeavesText r s t end fault = Leaves (list_input r s) (exactly t) end.ending fault end.source end.read end.old end.new

-- what a list in written form leaves, and what is told
abbrev pub RewriteTells : Ended → Option Stop → Type 0
RewriteTells end told = Tells of_list (LeavesText (event_rules {A = Global}) events.First rewrite_text end) told

-- What a request leaves of an input that its reader gave: what its task's own engine writes, and no other's, by options, which those over something else than events have not.
-- The fault that is told is the one by which it ended, if it ended by one.
abbrev pub RequestWrites : Options → Asked → Ended → Option Stop → Type 0
RequestWrites options rewrite end told = RewriteTells end told
RequestWrites options publish end told = Tells stop.Script (λ fault. OfKind (IsPublishText {A = Global}) (λ t. LeavesText script_rules scripts.First t end fault)) told
RequestWrites options import end told = Tells stop.Capture (ImportsTo Open end.ending end.source end.read end.old end.new) told
RequestWrites options asked end told = EventsWrite options (work_by options asked) end told

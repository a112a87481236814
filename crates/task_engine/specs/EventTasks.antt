-- What tasks over events leave, whatever input has the events, and why they stop.
use Rattle.std.specs.Prelude.{◌≡◌, ℕ, List, Option, option_map}
use Rattle.std.specs.Global.{Global}
use Rattle.list_core.specs.declared.device.InputEnd.{InputEnd}
use Rattle.list_core.specs.declared.device.InputEnd.TheVariants.{Open}
use Rattle.list_core.specs.declared.event.Event.{Event}
use Rattle.engine_core.specs.declared.ending.Ending.{Ending}
use Rattle.engine_core.specs.declared.stopped.Stopped.{Stopped}
use Rattle.engine_core.specs.declared.style.Style.{Style}
use Rattle.object_core.specs.declared.counted.Form.{Form}
use Rattle.engine_core.specs.EngineText.{Allowed}
use Rattle.engine_core.specs.EventsText.{EventText, FaultText, exactly_each, exactly_event, over_in}
use Rattle.engine_core.specs.Input.{Input, Reader}
use Rattle.engine_core.specs.RunOver.{IsUntouched, Leaves, OfKind, RunsOver, stopped_at}
use Rattle.frame_engines.specs.ShowObject.{show_allows}
use Rattle.frame_engines.specs.CheckObject.{check_event_in}
use Rattle.inventory_engine.specs.BlocksText.{AreBlocksTexts}
use Rattle.exchange_engines.specs.ReplayText.{AreTold, ReplaysSo, Says, entries_in, plainly}
use Rattle.exchange_engines.specs.WatchText.{AreWatchTexts}
use Rattle.exchange_engines.specs.declared.engines.replay.ReplayManner.{ReplayManner}
use Rattle.exchange_engines.specs.declared.engines.replay.ReplayStop.{ReplayStop}
use Rattle.exchange_engines.specs.declared.engines.replay.ReplayStop.TheVariants as why
use Rattle.loss_engine.specs.LossText.{losses_text}
use Rattle.words_core.specs.CommandLine.{Asked, show, check, list_blocks, losses, replay, watch}

-- what settles what a task writes of events, beside the form: nothing, a text for each form, or the entries of a subscriber; a task over something else writes nothing of events
abbrev pub Settles : Asked → Type 0
Settles show = Unit {0}
Settles check = Unit {0}
Settles list_blocks = Form → EventText Global
Settles (replay blocks) = Says Global
Settles (watch period id) = Form → EventText Global
Settles (losses periods) = Unit {0}
Settles _ = ⊥

-- it is that of this task, a replay in this manner
abbrev pub IsOf : ReplayManner → (asked : Asked) → Settles asked → Type 0
IsOf manner show it = Unit {0}
IsOf manner check it = Unit {0}
IsOf manner list_blocks texts = AreBlocksTexts texts
IsOf manner (replay blocks) says = AreTold manner blocks says
IsOf manner (watch period id) texts = AreWatchTexts period id texts
IsOf manner (losses periods) it = Unit {0}
IsOf manner _ it = ⊥

-- what the task may write of events in a style, where the fault of their input is told so
abbrev pub allowed_by : {C F : Type 0} → Style → FaultText F → (asked : Asked) → Settles asked → Allowed (Event Global) C F
allowed_by style last show it = over_in style show_allows last
allowed_by style last check it = over_in style (λ form. exactly_event (check_event_in form)) last
allowed_by style last list_blocks texts = over_in style (exactly_each texts) last
allowed_by style last (replay blocks) says = over_in style (entries_in blocks says) last
allowed_by style last (watch period id) texts = over_in style (exactly_each texts) last
allowed_by style last (losses periods) it = losses_text (record { periods = periods; style = style; last = last })
allowed_by style last _ it = absurd it

-- ---- what is left

-- What a run over events leaves: what was untouched where nothing was read; and by which fault of the input, where a task is done by what settles it.
pub record Left (F : Type 0) : Type 1 where
  pub untouched : Type 0
  pub text : Option F → (asked : Asked) → Settles asked → Type 0

-- a run stops by this fault of its input, where that is left of it
pub record StopsBy {F : Type 0} (IsLeft : Option F → Type 0) (stop : Option (ReplayStop F)) : Type 0 where
  pub fault : Option F
  pub by : stop ≡ option_map why.Input fault
  pub is_left : IsLeft fault

-- the text of a task is left
abbrev pub TextLeft : {F : Type 0} → ReplayManner → (asked : Asked) → Left F → Option F → Type 0
TextLeft manner asked left fault = OfKind (IsOf manner asked) (λ it. left.text fault asked it)

-- what a task over events leaves in a style, a replay in a manner, and why it stops; a replay may be refused its blocks
abbrev pub TaskLeaves : {F : Type 0} → Style → ReplayManner → Asked → Left F → Ending → Option (ReplayStop F) → Option (List ℕ) → Option (List ℕ) → Type 0
TaskLeaves style manner (replay blocks) left ending stop old new = ReplaysSo left.untouched style manner blocks (TextLeft manner (replay blocks) left) ending stop old new
TaskLeaves style manner asked left ending stop old new = StopsBy (TextLeft manner asked left) stop

-- what is asked for, and in which manner a replay is done
pub record Work : Type 0 where
  pub asked : Asked
  pub manner : ReplayManner

-- a task that is no replay, or one in the plain manner
abbrev pub plain_work : Asked → Work
plain_work asked = record { asked = asked; manner = plainly }

-- ---- over a reader

-- what a run over a reader of events leaves in a style
abbrev pub left_over : {I C F : Type 0} → Style → Reader I (Event Global) C F → FaultText F → I → Stopped I (ReplayStop F) → Option (List ℕ) → Option (List ℕ) → Left F
left_over style reader last start stopped old new = record {
  untouched = stopped.reader ≡ start;
  text = λ fault asked it. RunsOver reader (allowed_by style last asked it) start (stopped_at stopped.ending fault stopped.reader) old new;
}

-- what a task over a reader of events leaves in a style, and why it stops
abbrev pub OverWrites : {I C F : Type 0} → Style → Work → Reader I (Event Global) C F → FaultText F → I → Stopped I (ReplayStop F) → Option (List ℕ) → Option (List ℕ) → Type 0
OverWrites style work reader last start stopped old new = TaskLeaves style work.manner work.asked (left_over style reader last start stopped old new) stopped.ending stopped.fault old new

-- ---- of an input

-- how a run over a source ended: its ending, how the source then stands, the octets that it read, and what its writer held before and holds
pub record Ended : Type 0 where
  pub ending : Ending
  pub source : InputEnd
  pub read : List ℕ
  pub old : Option (List ℕ)
  pub new : Option (List ℕ)

abbrev pub ended : Ending → InputEnd → List ℕ → Option (List ℕ) → Option (List ℕ) → Ended
ended ending source read old new = record { ending = ending; source = source; read = read; old = old; new = new }

-- what a run over an input of events leaves in a style, and by which fault it ended
abbrev pub left_of : {C F : Type 0} → Style → Input (Event Global) C F → FaultText F → Ended → Left F
left_of style input last end = record {
  untouched = IsUntouched Open end.source end.read;
  text = λ fault asked it. Leaves input (allowed_by style last asked it) end.ending fault end.source end.read end.old end.new;
}

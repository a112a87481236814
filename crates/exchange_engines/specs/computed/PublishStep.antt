-- The text of `publish` as it is computed: by how far a script has come, and what its publisher holds.
use Rattle.std.specs.Prelude.{◌≡◌, ℕ, ◌==◌, ◌&&◌, nat_lt, nat_le, Bool, false, List, [], ◌∷◌, ◌++◌, length, Option, Some, None, Result, Ok, Err, if◌then◌else◌, ⊤, codes}
use Rattle.std.specs.List.{list_all}
use Rattle.list_core.specs.declared.read_error.ReadError.{ReadError}
use Rattle.list_core.specs.declared.read_error.ReadError.TheVariants as read
use Rattle.publish_core.specs.declared.fault.PublishFault.{PublishFault}
use Rattle.publish_core.specs.declared.table.Step.{Step}
use Rattle.publish_core.specs.Frames.{Setup, change, setup}
use Rattle.publish_core.specs.Table.{most_steps}
use Rattle.publish_core.specs.computed.Judgement.{refusal}
use Rattle.publish_core.specs.Refusal.{next_state}
use Rattle.publish_core.specs.Run.{Request, Call, Changed, Polled, call, greatest_call_moment}
use Rattle.publish_core.specs.State.{PublisherState, PublisherStandsAfter}
use Rattle.publish_core.specs.computed.Step.{request_frame, request_state, fresh_publisher}
use Rattle.exchange_engines.specs.declared.engines.publish.Stage.{Stage}
use Rattle.exchange_engines.specs.declared.engines.publish.Stage.TheVariants as stage
use Rattle.script_core.specs.declared.script.ScriptCause.{ScriptCause}
use Rattle.script_core.specs.declared.script.ScriptCause.TheVariants as cause
use Rattle.script_core.specs.declared.script.ScriptItem.{ScriptItem}
use Rattle.script_core.specs.declared.script.ScriptItem.TheVariants as item
use Rattle.engine_core.specs.EngineText.{Text, step_text}
use Rattle.exchange_engines.specs.PublishText.{IsScriptSound, answer_text, items_of_lines, script_cause}
use Rattle.exchange_engines.specs.ScriptFaultLine.{script_fault_line}

-- how far a script has come: nothing was said, a control line and some steps, or some calls too
pub data Progress (A : Type 0) : Type 0 where
  nothing : Progress A
  setting_up : Setup A → Progress A
  calling : Setup A → List Call → Progress A

-- a setup with a step more
abbrev pub with_step : {A : Type 0} → Setup A → Step → Setup A
with_step p s = setup p.control (p.table ++ s ∷ []) p.first

-- after one call more
abbrev pub called : {A : Type 0} → Progress A → Call → Progress A
called nothing c = nothing
called (setting_up p) c = calling p (c ∷ [])
called (calling p calls) c = calling p (calls ++ c ∷ [])

-- after one item more
abbrev pub next_progress : {A : Type 0} → ScriptItem A → Progress A → Progress A
next_progress (item.Control control first) nothing = setting_up (setup control [] first)
next_progress (item.Control control first) (setting_up p) = setting_up p
next_progress (item.Control control first) (calling p calls) = calling p calls
next_progress (item.Step s) nothing = nothing
next_progress (item.Step s) (setting_up p) = setting_up (with_step p s)
next_progress (item.Step s) (calling p calls) = calling p calls
next_progress (item.Change moment t values) g = called g (call moment (Changed (change t values)))
next_progress (item.Poll moment) g = called g (call moment Polled)

-- after these items
abbrev pub progress_from : {A : Type 0} → Progress A → List (ScriptItem A) → Progress A
progress_from g [] = g
progress_from g (i ∷ items) = progress_from (next_progress i g) items

abbrev pub progress_after : {A : Type 0} → List (ℕ × ScriptItem A) → Progress A
progress_after items = progress_from nothing (items_of_lines items)

-- what a publisher holds after these calls
abbrev pub state_after_calls : {A : Type 0} → PublisherState A → List Call → PublisherState A
state_after_calls s [] = s
state_after_calls s (c ∷ calls) = state_after_calls (request_state s c.request c.moment) calls

-- why a call is refused, if it is
abbrev pub call_refusal : {A : Type 0} → Setup A → List Call → Request → Option PublishFault
call_refusal p calls (Changed change) = refusal p.control p.table (next_state p calls) change
call_refusal p calls Polled = None

-- the text of a call that is not refused
abbrev pub text_unless_refused : Option PublishFault → List ℕ → Result (List ℕ × Bool) ScriptCause
text_unless_refused None text = Ok (text, false)
text_unless_refused (Some why) text = Err (script_cause why)

-- the text of a call behind others
abbrev pub call_written : {A : Type 0} → Setup A → List Call → Call → Result (List ℕ × Bool) ScriptCause
call_written p calls c = text_unless_refused (call_refusal p calls c.request) (answer_text (greatest_call_moment (calls ++ c ∷ [])) (request_frame (state_after_calls (fresh_publisher p) calls) c.request c.moment))

-- the step waits, and its frame lives longer than that
abbrev pub is_good : Step → Bool
is_good s = nat_lt 0 s.wait_ms && nat_lt s.wait_ms s.live_ms

-- why no publisher can be set up so, if none can
abbrev pub setup_cause : {A : Type 0} → Setup A → Option ScriptCause
setup_cause p =
    if nat_lt 0 (length p.table) && nat_le (length p.table) most_steps
    then (if list_all is_good p.table then (if p.first == 0 then Some cause.FirstState else None) else Some cause.StepTimes)
    else Some cause.StepCount

-- what a call writes, where the publisher can be set up
abbrev pub unless_unsound : Option ScriptCause → Result (List ℕ × Bool) ScriptCause → Result (List ℕ × Bool) ScriptCause
unless_unsound None said = said
unless_unsound (Some why) said = Err why

abbrev pub call_at : {A : Type 0} → Progress A → Call → Result (List ℕ × Bool) ScriptCause
call_at nothing c = Err cause.ScriptForm
call_at (setting_up p) c = unless_unsound (setup_cause p) (call_written p [] c)
call_at (calling p calls) c = call_written p calls c

-- what an item writes
abbrev pub item_written : {A : Type 0} → ScriptItem A → Progress A → Result (List ℕ × Bool) ScriptCause
item_written (item.Control control first) nothing = Ok ([], false)
item_written (item.Control control first) (setting_up p) = Err cause.ScriptForm
item_written (item.Control control first) (calling p calls) = Err cause.ScriptForm
item_written (item.Step s) nothing = Err cause.ScriptForm
item_written (item.Step s) (setting_up p) = if nat_lt (length p.table) most_steps then Ok ([], false) else Err cause.StepCount
item_written (item.Step s) (calling p calls) = Err cause.ScriptForm
item_written (item.Change moment t values) g = call_at g (call moment (Changed (change t values)))
item_written (item.Poll moment) g = call_at g (call moment Polled)

abbrev pub publish_text : {A : Type 0} → Text (ScriptItem A) ScriptCause
publish_text = record {
  first = codes "V2\n";
  of_item = λ before e. item_written e.1 (progress_after before);
  last = script_fault_line;
}

-- ---- what the engine holds

-- it holds how far a script has come
abbrev pub Holds : {A : Type 0} → Stage A → Progress A → Type 0
Holds stage.Start nothing = ⊤
Holds (stage.Setup control first steps) (setting_up p) = setup control steps.items first ≡ p
Holds (stage.Running publisher) (calling p calls) = IsScriptSound p × PublisherStandsAfter p calls publisher
Holds _ _ = ⊥

-- an item was taken after this: its text was appended, and the engine holds what follows
pub record ScriptItemTaken {A : Type 0} (g : Progress A) (i : ScriptItem A) (s : Stage A) (old new : List ℕ) : Type 0 where
  pub text : List ℕ
  pub has_text : item_written i g ≡ Ok (text, false)
  pub appended : new ≡ old ++ text
  pub holds : Holds s (next_progress i g)

-- an item was taken after this; or refused; or memory was wanted, where there is something to write
abbrev pub TakesItem : {A : Type 0} → Progress A → ScriptItem A → Result (Unit {0}) (ReadError ScriptCause) → Stage A → List ℕ → List ℕ → Type 0
TakesItem g i (Ok u) s old new = ScriptItemTaken g i s old new
TakesItem g i (Err (read.Fault why)) s old new = item_written i g ≡ Err why
TakesItem {A} g i (Err (read.Memory e)) s old new = (n : ℕ) → step_text (publish_text {A = A}) n (item_written i g) ≡ [] → ⊥

-- a call was taken after these: its text was appended, and the publisher stands after it too
pub record CallTaken {A : Type 0} (p : Setup A) (calls : List Call) (c : Call) (old new : List ℕ) (s : PublisherState A) : Type 0 where
  pub text : List ℕ
  pub has_text : call_written p calls c ≡ Ok (text, false)
  pub appended : new ≡ old ++ text
  pub stands_after : PublisherStandsAfter p (calls ++ c ∷ []) s

-- a call was taken after these; or refused; or memory was wanted, where there is something to write
abbrev pub TakesCall : {A : Type 0} → Setup A → List Call → Call → Result (Unit {0}) (ReadError ScriptCause) → List ℕ → List ℕ → PublisherState A → Type 0
TakesCall p calls c (Ok u) old new s = CallTaken p calls c old new s
TakesCall p calls c (Err (read.Fault why)) old new s = call_written p calls c ≡ Err why
TakesCall {A} p calls c (Err (read.Memory e)) old new s = (n : ℕ) → step_text (publish_text {A = A}) n (call_written p calls c) ≡ [] → ⊥

-- a publisher runs after this: it stands after some calls, and a further call is one behind them
pub record RunsPublisher {A : Type 0} (g : Progress A) (s : PublisherState A) : Type 0 where
  pub p : Setup A
  pub calls : List Call
  pub is_sound : IsScriptSound p
  pub stands : PublisherStandsAfter p calls s
  pub writes : (c : Call) → call_at g c ≡ call_written p calls c
  pub goes_on : (c : Call) → called g c ≡ calling p (calls ++ c ∷ [])

-- the publisher that runs after this, or why none does
abbrev pub Runs : {A : Type 0} → Progress A → Result (PublisherState A) ScriptCause → Type 0
Runs g (Ok s) = RunsPublisher g s
Runs g (Err why) = (c : Call) → call_at g c ≡ Err why

-- the publisher runs after this, where the engine holds it
abbrev pub IsRunning : {A : Type 0} → Progress A → Stage A → Type 0
IsRunning g (stage.Running publisher) = RunsPublisher g publisher
IsRunning g _ = ⊥

-- the engine holds the publisher that runs after this, or none runs
abbrev pub Begins : {A : Type 0} → Progress A → Result (Unit {0}) ScriptCause → Stage A → Type 0
Begins g (Ok u) s = IsRunning g s
Begins g (Err why) s = (c : Call) → call_at g c ≡ Err why

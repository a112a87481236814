-- The text of `publish`: the list of what a publisher sends (IEC 61850-8-1) that a script sets up and calls.
-- ---- what a script says
use Rattle.std.specs.Prelude.{◌≡◌, ◌<◌, ◌≤◌, ◌⊎◌, ℕ, List, [], ◌∷◌, ◌++◌, length, map, Bool, false, Option, Some, None, Result, Ok, Err, ⊤, codes}
use Rattle.list_core.specs.declared.event.EventKind.TheVariants.{Frame}
use Rattle.frame_core.specs.declared.frame.Frame.{Frame as SentFrame}
use Rattle.list_core.specs.declared.line_rules.ItemFault.{ItemFault}
use Rattle.list_core.specs.EventText.{event_text}
use Rattle.frame_core.specs.Written.{written_frame}
use Rattle.publish_core.specs.declared.control.Control.{Control}
use Rattle.publish_core.specs.declared.fault.PublishFault.{PublishFault}
use Rattle.publish_core.specs.declared.fault.PublishFault.TheVariants as publish
use Rattle.publish_core.specs.declared.table.Step.{Step}
use Rattle.publish_core.specs.Frames.{Setup}
use Rattle.publish_core.specs.Refusal.{Accepts, Refuses}
use Rattle.publish_core.specs.Run.{Request, Call, Changed, Polled, IsAnswer, greatest_call_moment, trace_of_calls}
use Rattle.publish_core.specs.Table.{AreSteps, most_steps}
use Rattle.script_core.specs.declared.script.ScriptCause.{ScriptCause}
use Rattle.script_core.specs.declared.script.ScriptCause.TheVariants as cause
use Rattle.script_core.specs.declared.script.ScriptItem.{ScriptItem}
use Rattle.script_core.specs.declared.script.ScriptItem.TheVariants as item
use Rattle.engine_core.specs.EngineText.{Text}
use Rattle.exchange_engines.specs.ScriptFaultLine.{script_fault_line}

-- items without the numbers of their lines
abbrev pub items_of_lines : {A : Type 0} → List (ℕ × ScriptItem A) → List (ScriptItem A)
items_of_lines items = map (λ e. e.1) items

-- the line of a call at this moment: of a change, or of a poll
abbrev pub item_of_request : {A : Type 0} → ℕ → Request → ScriptItem A
item_of_request moment (Changed change) = item.Change moment change.t change.values
item_of_request moment Polled = item.Poll moment

-- the line of a call
abbrev pub item_of_call : {A : Type 0} → Call → ScriptItem A
item_of_call c = item_of_request c.moment c.request

-- the script of a publisher that is called so: the control line, the steps of its table, the calls
abbrev pub script_of : {A : Type 0} → Setup A → List Call → List (ScriptItem A)
script_of p calls = item.Control p.control p.first ∷ (map item.Step p.table ++ map item_of_call calls)

-- a publisher can be set up so: the steps make a table, and the first status number is one
pub record IsScriptSound {A : Type 0} (p : Setup A) : Type 0 where
  pub steps : AreSteps p.table
  pub some : 0 < p.first
  pub most : p.first ≤ 4294967295

-- ---- what its calls write

-- the line of a frame that is sent at a moment, as in a list; nothing where none is sent
abbrev pub answer_text : {A : Type 0} → ℕ → Option (SentFrame A) → List ℕ
answer_text moment None = []
answer_text {A} moment (Some f) = event_text {A = A} (record { moment = moment; kind = Frame (written_frame f) })

-- a poll is always answered, a change where it is accepted
abbrev pub IsAnswered : {A : Type 0} → Setup A → List Call → Request → Type 0
IsAnswered p calls (Changed change) = Accepts p calls change
IsAnswered p calls Polled = ⊤

-- a change that is refused, and why
abbrev pub IsRefused : {A : Type 0} → Setup A → List Call → Request → PublishFault → Type 0
IsRefused p calls (Changed change) why = Refuses p calls change why
IsRefused p calls Polled why = ⊥

-- how a script names why something is refused
abbrev pub script_cause : PublishFault → ScriptCause
script_cause publish.StepCount = cause.StepCount
script_cause (publish.StepTimes i) = cause.StepTimes
script_cause publish.FirstState = cause.FirstState
script_cause publish.EntriesDiffer = cause.EntriesDiffer
script_cause publish.NotSpellable = cause.NotSpellable
script_cause publish.WouldNotFit = cause.WouldNotFit

-- A call after these is answered: what it gives is written at the greatest moment so far. No line is a finding.
pub record IsCallAnswered {A : Type 0} (p : Setup A) (calls : List Call) (c : Call) (written : Result (List ℕ × Bool) ScriptCause) : Type 0 where
  pub answered : IsAnswered p calls c.request
  pub answer : Option (SentFrame A)
  pub is_answer : IsAnswer p (trace_of_calls (calls ++ c ∷ [])) (length calls) answer
  pub line : written ≡ Ok (answer_text (greatest_call_moment (calls ++ c ∷ [])) answer, false)

-- A call after these is refused, and ends the text.
pub record IsCallRefused {A : Type 0} (p : Setup A) (calls : List Call) (c : Call) (written : Result (List ℕ × Bool) ScriptCause) : Type 0 where
  pub why : PublishFault
  pub refused : IsRefused p calls c.request why
  pub ends : written ≡ Err (script_cause why)

-- what is written of a call after these
abbrev pub IsCallText : {A : Type 0} → Setup A → List Call → Call → Result (List ℕ × Bool) ScriptCause → Type 0
IsCallText p calls c written = IsCallAnswered p calls c written ⊎ IsCallRefused p calls c written

-- ---- the text

-- What `publish` writes: a list of version 2. The control line and the steps write nothing; each call behind them writes what it gives. No line is a finding.
pub record IsPublishText {A : Type 0} (t : Text (ScriptItem A) ScriptCause) : Type 0 where
  pub first : t.first ≡ codes "V2\n"
  pub control_line : (n first : ℕ) (control : Control A) → t.of_item [] (n, item.Control control first) ≡ Ok ([], false)
  pub table_step : (p : Setup A) (before : List (ℕ × ScriptItem A)) → items_of_lines before ≡ script_of p [] → length p.table < most_steps →
      (n : ℕ) (s : Step) → t.of_item before (n, item.Step s) ≡ Ok ([], false)
  pub call : (p : Setup A) (calls : List Call) (before : List (ℕ × ScriptItem A)) → items_of_lines before ≡ script_of p calls → IsScriptSound p →
      (n : ℕ) (c : Call) → IsCallText p calls c (t.of_item before (n, item_of_call c))
  pub last : (f : ItemFault ScriptCause) → t.last f ≡ script_fault_line f

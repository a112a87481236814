-- A run of an engine: the items of which it wrote, the answer that ended it, and what it left written.
use Rattle.std.specs.Prelude.{◌≡◌, ◌⊎◌, ◌||◌, ℕ, Bool, List, [], ◌++◌, take, slice_get, Option, Some, None, Result, Ok, Err, if◌then◌else◌}
use Rattle.std.specs.Io.KnownBytes.{Appends}
use Rattle.list_core.specs.declared.device.InputEnd.{InputEnd}
use Rattle.list_core.specs.declared.device.InputEnd.TheVariants.{Open}
use Rattle.list_core.specs.Device.{AppendsPrefix}
use Rattle.list_core.specs.ReadItems.{AnswerOf}
use Rattle.engine_core.specs.declared.ending.Ending.{Ending}
use Rattle.engine_core.specs.declared.ending.Ending.TheVariants.{Done, Findings, WriteFault, Memory}
use Rattle.engine_core.specs.declared.stopped.Halt.{Halt}
use Rattle.engine_core.specs.declared.stopped.Halt.TheVariants as halt
use Rattle.engine_core.specs.declared.stopped.Stopped.{Stopped}
use Rattle.engine_core.specs.Ending.{ending_by_fault}
use Rattle.engine_core.specs.EngineText.{Allowed, ItemText, AreAllowedTexts, has_finding, joined_texts, step_text_to}
use Rattle.engine_core.specs.Input.{Faults, GaveThen, Input, IsRead, Reader}

-- ---- what is due for an answer

-- the fault by which a step ends the text
abbrev pub step_fault : {C F : Type 0} → (ℕ → C → F) → ℕ → Result (List ℕ × Bool) C → Option F
step_fault refused n (Ok s) = None
step_fault refused n (Err why) = Some (refused n why)

-- a step that is allowed for an item after these: the text that it writes, and the fault by which it ends the text
pub record IsStep {X C F : Type 0} (refused : ℕ → C → F) (t : Allowed X C F) (before : List (ℕ × X)) (e : ℕ × X) (text : List ℕ) (closing : Option F) : Type 0 where
  pub written : Result (List ℕ × Bool) C
  pub is_allowed : t.of_item before e written
  pub has_text : text ≡ step_text_to refused t e.0 written
  pub has_fault : closing ≡ step_fault refused e.0 written

-- what may be due for an answer, after these items: a text, and the fault by which it ends the text; for want of memory nothing is
abbrev pub IsDue : {X C F : Type 0} → (ℕ → C → F) → Allowed X C F → List (ℕ × X) → AnswerOf X F → List ℕ → Option F → Type 0
IsDue refused t before (Ok (Some e)) text closing = IsStep refused t before e text closing
IsDue refused t before (Ok None) text closing = (text ≡ []) × (closing ≡ None)
IsDue refused t before (Err (Some f)) text closing = (text ≡ t.last f) × (closing ≡ Some f)
IsDue refused t before (Err None) text closing = ⊥

-- whatever may be due is not empty
abbrev pub HasText : {F : Type 0} → (List ℕ → Option F → Type 0) → Type 0
HasText {F} Due = (text : List ℕ) (closing : Option F) → Due text closing → text ≡ [] → ⊥

-- something may be kept of the item of an answer, after these items
abbrev pub KeepsOf : {X C F : Type 0} → Allowed X C F → List (ℕ × X) → AnswerOf X F → Type 0
KeepsOf t before (Ok (Some e)) = t.keeps before e
KeepsOf t before (Ok None) = ⊥
KeepsOf t before (Err why) = ⊥

-- memory is wanted by the answer itself, for what is kept of its item, or for the text that it asks for
abbrev pub WantsFor : {X C F : Type 0} → (ℕ → C → F) → Allowed X C F → List (ℕ × X) → AnswerOf X F → Type 0
WantsFor refused t before answer = (answer ≡ Err None) ⊎ KeepsOf t before answer ⊎ HasText (IsDue refused t before answer)

-- ---- how an answer ends a run

-- The run stops: a text that is due was written, and ends by the fault that is handed out; the writer failed at a prefix of one; or memory was wanted and nothing was written.
abbrev pub Stops : {F : Type 0} → Type 0 → (List ℕ → Option F → Type 0) → Halt F → Option (List ℕ) → Option (List ℕ) → Type 0
Stops wants Due (halt.Fault why) old new = (text : List ℕ) × Due text (Some why) × Appends old new text
Stops {F} wants Due halt.WriteFault old new = (text : List ℕ) × (closing : Option F) × Due text closing × AppendsPrefix old new text
Stops wants Due halt.Memory old new = wants × (new ≡ old)

-- the ending of a run that stops
abbrev pub ending_by_halt : {F : Type 0} → (F → Bool) → Halt F → Ending
ending_by_halt failed (halt.Fault why) = ending_by_fault failed why
ending_by_halt failed halt.WriteFault = WriteFault
ending_by_halt failed halt.Memory = Memory

-- the fault that it hands out
abbrev pub fault_by_halt : {F : Type 0} → Halt F → Option F
fault_by_halt (halt.Fault why) = Some why
fault_by_halt halt.WriteFault = None
fault_by_halt halt.Memory = None

-- the input has ended, and the lines at its end were written: one of the items or of the lines was a finding, or none was
pub record EndsThere {X C F : Type 0} (t : Allowed X C F) (items : List (ℕ × X)) (texts : List ItemText) (answer : AnswerOf X F) (ending : Ending) (fault : Option F) (held new : Option (List ℕ)) : Type 0 where
  pub ended : answer ≡ Ok None
  pub lines : List ItemText
  pub may_end : t.at_end items lines
  pub has_ending : ending ≡ (if has_finding texts || has_finding lines then Findings else Done)
  pub by_none : fault ≡ None
  pub written : Appends held new (joined_texts lines)
  pub no_more : lines ≡ [] → new ≡ held

-- or the run stops early: by a fault, which is handed out, because its writer failed, or for want of memory
pub record HaltsThere {X C F : Type 0} (faults : Faults C F) (t : Allowed X C F) (items : List (ℕ × X)) (answer : AnswerOf X F) (ending : Ending) (fault : Option F) (held new : Option (List ℕ)) : Type 0 where
  pub halt : Halt F
  pub stops : Stops (WantsFor faults.refused t items answer) (IsDue faults.refused t items answer) halt held new
  pub has_ending : ending ≡ ending_by_halt faults.failed halt
  pub by : fault ≡ fault_by_halt halt

-- a run stops at a line: the writer failed at a prefix of it, or memory was wanted for it, which is not empty
abbrev pub StopsAtLine : List ℕ → Ending → Option (List ℕ) → Option (List ℕ) → Type 0
StopsAtLine text ending old new = ((ending ≡ WriteFault) × AppendsPrefix old new text) ⊎ ((ending ≡ Memory) × (text ≡ [] → ⊥) × (new ≡ old))

-- or it stops at a line at the end of the input, behind those before it
pub record HaltsAtEnd {X C F : Type 0} (t : Allowed X C F) (items : List (ℕ × X)) (answer : AnswerOf X F) (ending : Ending) (fault : Option F) (held new : Option (List ℕ)) : Type 0 where
  pub ended : answer ≡ Ok None
  pub lines : List ItemText
  pub may_end : t.at_end items lines
  -- how many lines were written, and what the writer holds behind them
  pub before : ℕ
  pub mid : Option (List ℕ)
  pub written : Appends held mid (joined_texts (take before lines))
  pub line : ItemText
  pub is_line : slice_get lines before ≡ Some line
  pub stops : StopsAtLine line.text ending mid new
  pub by_none : fault ≡ None

-- ---- the run

-- A run that wrote its first text: items and an answer behind them that are read so, what it wrote of each item, and how the answer ended it.
pub record Run {X C F : Type 0} (IsReadSo : List (ℕ × X) → AnswerOf X F → Type 0) (faults : Faults C F) (t : Allowed X C F) (ending : Ending) (fault : Option F) (old new : Option (List ℕ)) : Type 0 where
  pub items : List (ℕ × X)
  pub texts : List ItemText
  pub are_texts : AreAllowedTexts t items texts
  -- what the writer holds behind these texts
  pub held : Option (List ℕ)
  pub written : Appends old held (t.first ++ joined_texts texts)
  pub answer : AnswerOf X F
  pub read : IsReadSo items answer
  pub ends : HaltsThere faults t items answer ending fault held new ⊎ EndsThere t items texts answer ending fault held new ⊎ HaltsAtEnd t items answer ending fault held new

-- a run that could not write its first text: the writer failed at a prefix of it, and what it reads is untouched
pub record FailsBefore {X C F : Type 0} (Untouched : Type 0) (t : Allowed X C F) (ending : Ending) (fault : Option F) (old new : Option (List ℕ)) : Type 0 where
  pub write_fault : ending ≡ WriteFault
  pub by_none : fault ≡ None
  pub untouched : Untouched
  pub written : AppendsPrefix old new t.first

-- what a run leaves of what is untouched so, or is read so
abbrev pub LeavesSo : {X C F : Type 0} → Type 0 → (List (ℕ × X) → AnswerOf X F → Type 0) → Faults C F → Allowed X C F → Ending → Option F → Option (List ℕ) → Option (List ℕ) → Type 0
LeavesSo Untouched IsReadSo faults t ending fault old new = FailsBefore Untouched t ending fault old new ⊎ Run IsReadSo faults t ending fault old new

-- what a run hands out that ended so
abbrev pub stopped_at : {I F : Type 0} → Ending → Option F → I → Stopped I F
stopped_at ending fault reader = record { ending = ending; fault = fault; reader = reader }

-- what a run over a reader leaves, and hands out
abbrev pub RunsOver : {I X C F : Type 0} → Reader I X C F → Allowed X C F → I → Stopped I F → Option (List ℕ) → Option (List ℕ) → Type 0
RunsOver reader t start stopped old new = LeavesSo (stopped.reader ≡ start) (GaveThen reader start stopped.reader) reader.faults t stopped.ending stopped.fault old new

-- an open source was left as it was: it is open still, and nothing was read
abbrev pub IsUntouched : InputEnd → InputEnd → List ℕ → Type 0
IsUntouched before after read = (after ≡ before) × (read ≡ [])

-- what a run leaves of an input of which these octets were read, where its source then stands so
abbrev pub Leaves : {X C F : Type 0} → Input X C F → Allowed X C F → Ending → Option F → InputEnd → List ℕ → Option (List ℕ) → Option (List ℕ) → Type 0
Leaves input t ending fault z read old new = LeavesSo (IsUntouched Open z read) (IsRead input z read) input.faults t ending fault old new

-- something of this kind settles what may be written, and that is left so
pub record OfKind {T : Type 0} (Is : T → Type 0) (IsLeft : T → Type 0) : Type 0 where
  pub by : T
  pub is : Is by
  pub is_left : IsLeft by

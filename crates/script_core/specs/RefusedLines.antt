-- Why a line of a script of `publish` is refused (profile): for each cause the lines that have it.
use Rattle.std.specs.Prelude.{◌≡◌, ◌≤◌, ◌⊎◌, ℕ, List}
use Rattle.ber_core.specs.declared.fault.Fault.{Fault}
use Rattle.mms_data.specs.Spelling.{FaultIn}
use Rattle.mms_data.specs.declared.time.UtcTime.{UtcTime}
use Rattle.list_core.specs.EventLine.{moment_of}
use Rattle.list_core.specs.declared.event_lines.MomentUnit.{MomentUnit}
use Rattle.publish_core.specs.declared.control.Control.{Control}
use Rattle.publish_core.specs.declared.table.Step.{Step}
use Rattle.publish_core.specs.Table.{IsGood, most_steps}
use Rattle.script_core.specs.ScriptFields.{all_octets_in, time_in}
use Rattle.script_core.specs.Lines.{IsChangeLine, IsControlLine, IsPollLine, IsStepLine, MayCall, SaysField, SaysNoField}
use Rattle.script_core.specs.declared.script.ScriptCause.{ScriptCause}
use Rattle.script_core.specs.declared.script.ScriptCause.TheVariants as cause
use Rattle.script_core.specs.declared.script.ScriptPart.{ScriptPart}
use Rattle.script_core.specs.declared.script.ScriptPart.TheVariants as part

-- the line of a change or of a poll
abbrev pub IsCallLine : ScriptPart → List ℕ → List (List ℕ) → Type 0
IsCallLine p name fields = IsChangeLine p name fields ⊎ IsPollLine p name fields

-- the line has a form of a script, and stands where that form may: a control line, a step, or a change or poll behind the control line
pub data HasForm (A : Type 0) (p : ScriptPart) (name : List ℕ) (fields : List (List ℕ)) : Type 0 where
  of_control : (control : Control A) (first : ℕ) → IsControlLine p name fields control first → HasForm A p name fields
  of_step : (steps : ℕ) (s : Step) → IsStepLine p name fields steps s → HasForm A p name fields
  of_call : IsCallLine p name fields → HasForm A p name fields

-- FirstState: a control line whose first status number is 0
pub record HasNoFirstState (A : Type 0) (p : ScriptPart) (name : List ℕ) (fields : List (List ℕ)) : Type 0 where
  pub control : Control A
  pub is_line : IsControlLine p name fields control 0

-- StepTimes: the line of a step that waits for nothing, or whose frame lives no longer than it waits
pub record HasBadTimes (p : ScriptPart) (name : List ℕ) (fields : List (List ℕ)) : Type 0 where
  pub steps : ℕ
  pub step : Step
  pub is_line : IsStepLine p name fields steps step
  pub bad : ¬ IsGood step

-- StepCount: the line of a good step, where as many steps stand before it as a table has at most
pub record IsStepTooMany (p : ScriptPart) (name : List ℕ) (fields : List (List ℕ)) : Type 0 where
  pub steps : ℕ
  pub step : Step
  pub is_line : IsStepLine p name fields steps step
  pub is_good : IsGood step
  pub is_full : most_steps ≤ steps

-- StepCount: the line of a change or a poll before the first step
pub record IsCallTooEarly (p : ScriptPart) (name : List ℕ) (fields : List (List ℕ)) : Type 0 where
  pub is_line : IsCallLine p name fields
  pub no_step : p ≡ part.Steps 0

-- Moment: the line of a change or a poll, which may stand here, and its first field says no moment
pub record HasBadMoment (unit : MomentUnit) (p : ScriptPart) (name : List ℕ) (fields : List (List ℕ)) : Type 0 where
  pub is_line : IsCallLine p name fields
  pub may_stand : MayCall p
  pub bad : SaysNoField fields 0 (moment_of unit)

-- Hex: the line of a change, which may stand here and says a moment, and its second field says no time or its third one no octets
pub record HasBadDigits (unit : MomentUnit) (p : ScriptPart) (name : List ℕ) (fields : List (List ℕ)) : Type 0 where
  pub is_line : IsChangeLine p name fields
  pub may_stand : MayCall p
  pub moment : ℕ
  pub moment_is : SaysField fields 0 (moment_of unit) moment
  pub bad : SaysNoField fields 1 time_in ⊎ SaysNoField fields 2 all_octets_in

-- Members: the line of a change, which may stand here and says a moment, a time and octets, and the octets have this first fault, its place counted in them
pub record HasFaultyMembers (unit : MomentUnit) (p : ScriptPart) (name : List ℕ) (fields : List (List ℕ)) (fault : Fault) : Type 0 where
  pub is_line : IsChangeLine p name fields
  pub may_stand : MayCall p
  pub moment : ℕ
  pub moment_is : SaysField fields 0 (moment_of unit) moment
  pub t : UtcTime
  pub time_is : SaysField fields 1 time_in t
  pub octets : List ℕ
  pub members : SaysField fields 2 all_octets_in octets
  pub faulty : FaultIn fault 1 0 octets

-- Where lines of this part may stand, a line with this name and these fields is refused, and this is why; of several reasons the
-- first. ScriptForm: it has no such form, or a wrong place. For the last three causes a publisher refuses a change.
abbrev pub IsRefusedLine : Type 0 → MomentUnit → ScriptPart → List ℕ → List (List ℕ) → ScriptCause → Type 0
IsRefusedLine A unit p name fields cause.ScriptForm = ¬ HasForm A p name fields
IsRefusedLine A unit p name fields cause.FirstState = HasNoFirstState A p name fields
IsRefusedLine A unit p name fields cause.StepTimes = HasBadTimes p name fields
IsRefusedLine A unit p name fields cause.StepCount = IsStepTooMany p name fields ⊎ IsCallTooEarly p name fields
IsRefusedLine A unit p name fields cause.Moment = HasBadMoment unit p name fields
IsRefusedLine A unit p name fields cause.Hex = HasBadDigits unit p name fields
IsRefusedLine A unit p name fields (cause.Members fault) = HasFaultyMembers unit p name fields fault
IsRefusedLine A unit p name fields cause.EntriesDiffer = ⊥
IsRefusedLine A unit p name fields cause.NotSpellable = ⊥
IsRefusedLine A unit p name fields cause.WouldNotFit = ⊥

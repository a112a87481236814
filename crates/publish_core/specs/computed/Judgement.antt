-- Why a change is refused, as a test: beneath the definition of a refusal, to which a law ties it.
use Rattle.std.specs.Prelude.{◌≡◌, ℕ, zero, suc, ◌+◌, ◌==◌, ◌&&◌, Bool, true, nat_le, Option, Some, None, List, length, if◌then◌else◌}
use Rattle.frame_core.specs.declared.frame.Frame.{Frame}
use Rattle.frame_core.specs.Written.{written_apdu, written_frame}
use Rattle.mms_data.specs.computed.SpellableTest.{all_are_spellable, is_time}
use Rattle.pdu_core.specs.computed.SpellableTest.{are_texts}
use Rattle.publish_core.specs.declared.control.Control.{Control}
use Rattle.publish_core.specs.declared.fault.PublishFault.{PublishFault}
use Rattle.publish_core.specs.declared.fault.PublishFault.TheVariants as faults
use Rattle.publish_core.specs.declared.table.Step.{Step}
use Rattle.publish_core.specs.Frames.{Change}
use Rattle.publish_core.specs.Refusal.{IsAccepted, IsRefusal}
use Rattle.publish_core.specs.computed.Step.{judged_frame}
use Rattle.publish_core.specs.Table.{AreSteps}

-- the texts of the control, the time of the change and each value have a spelling
abbrev pub is_change_spellable : {A : Type 0} → Control A → Change → Bool
is_change_spellable control change = are_texts control.gocb_ref control.dat_set control.go_id && (is_time change.t && all_are_spellable change.values 1)

-- the frame is not too long
abbrev pub is_short : {A : Type 0} → Frame A → Bool
is_short f = nat_le (8 + length (written_apdu f.apdu)) 1500 && nat_le (length (written_frame f)) 1600

-- the longest frames of the first n steps are not
abbrev pub are_short : {A : Type 0} → Control A → List Step → ℕ → Change → ℕ → Bool
are_short control table state change zero = true
are_short control table state change (suc i) = is_short (judged_frame control table state change i) && are_short control table state change i

-- why the change to a state with this status number is refused, if it is
abbrev pub refusal : {A : Type 0} → Control A → List Step → ℕ → Change → Option PublishFault
refusal control table state change =
    if length change.values == control.entries
    then (if is_change_spellable control change then (if are_short control table state change (length table) then None else Some faults.WouldNotFit) else Some faults.NotSpellable)
    else Some faults.EntriesDiffer

-- what an answer says of a change: it is accepted, or refused for this reason
abbrev pub IsJudged : {A : Type 0} → Control A → List Step → ℕ → Change → Option PublishFault → Type 0
IsJudged control table state change None = IsAccepted control table state change
IsJudged control table state change (Some fault) = IsRefusal control table state change fault

-- every change is accepted, or refused for one reason, and not both
abbrev pub ChangesAreJudged : Type 0 → Type 0
ChangesAreJudged A =
    (control : Control A) (table : List Step) (state : ℕ) (change : Change) → AreSteps table →
    (answer : Option PublishFault) × IsJudged control table state change answer ×
    ((other : Option PublishFault) → IsJudged control table state change other → other ≡ answer)

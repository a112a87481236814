-- Which changes a publisher accepts, and why it refuses the others.
use Rattle.std.specs.Prelude.{◌≡◌, ℕ, List, length, IfSome}
use Rattle.ber_core.specs.Contents.{AreVisible}
use Rattle.mms_data.specs.Spellable.{AllAreSpellable, IsTime}
use Rattle.frame_core.specs.Written.{IsTooLong}
use Rattle.publish_core.specs.declared.control.Control.{Control}
use Rattle.publish_core.specs.declared.fault.PublishFault.{PublishFault}
use Rattle.publish_core.specs.declared.fault.PublishFault.TheVariants as faults
use Rattle.publish_core.specs.declared.table.Step.{Step}
use Rattle.publish_core.specs.Numbers.{state_number}
use Rattle.publish_core.specs.Frames.{Change, Setup, frame}
use Rattle.publish_core.specs.Run.{Call, changes, trace_of_calls}

-- the texts of the control, the time of the change and each value have a spelling
pub record CanBeSpelled {A : Type 0} (control : Control A) (change : Change) : Type 0 where
  pub gocb_ref : AreVisible control.gocb_ref
  pub dat_set : AreVisible control.dat_set
  pub go_id : IfSome control.go_id AreVisible
  pub t : IsTime change.t
  pub values : AllAreSpellable change.values 1

-- every frame k of the state can be written, the first and each retransmission: none is too long
abbrev pub EveryFrameFits : {A : Type 0} → Control A → List Step → ℕ → Change → Type 0
EveryFrameFits control table state change = (k : ℕ) → ¬ IsTooLong (frame control table state change k)

-- why the change to a state with this status number is refused; of several reasons the first
abbrev pub IsRefusal : {A : Type 0} → Control A → List Step → ℕ → Change → PublishFault → Type 0
IsRefusal control table state change faults.StepCount = ⊥
IsRefusal control table state change (faults.StepTimes i) = ⊥
IsRefusal control table state change faults.FirstState = ⊥
IsRefusal control table state change faults.EntriesDiffer = ¬ (length change.values ≡ control.entries)
IsRefusal control table state change faults.NotSpellable = (length change.values ≡ control.entries) × ¬ CanBeSpelled control change
IsRefusal control table state change faults.WouldNotFit =
    (length change.values ≡ control.entries) × CanBeSpelled control change × ((k : ℕ) × IsTooLong (frame control table state change k))

-- the change is accepted: it has the control's count of values, what it says can be spelled, and every frame fits
pub record IsAccepted {A : Type 0} (control : Control A) (table : List Step) (state : ℕ) (change : Change) : Type 0 where
  pub entries : length change.values ≡ control.entries
  pub spelled : CanBeSpelled control change
  pub fit : EveryFrameFits control table state change

-- the status number of the state that a change behind these calls begins
abbrev pub next_state : {A : Type 0} → Setup A → List Call → ℕ
next_state p calls = state_number p.first (changes (trace_of_calls calls) (length calls))

-- behind these calls the change is accepted
abbrev pub Accepts : {A : Type 0} → Setup A → List Call → Change → Type 0
Accepts p calls change = IsAccepted p.control p.table (next_state p calls) change

-- behind these calls the change is refused, and this is why
abbrev pub Refuses : {A : Type 0} → Setup A → List Call → Change → PublishFault → Type 0
Refuses p calls change fault = IsRefusal p.control p.table (next_state p calls) change fault

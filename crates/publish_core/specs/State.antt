-- What a publisher holds, and what of a whole list of calls that is.
use Rattle.std.specs.Prelude.{◌≡◌, ℕ, Option, Some, None, List, length}
use Rattle.publish_core.specs.declared.control.Control.{Control}
use Rattle.publish_core.specs.declared.publisher.Last.{Last}
use Rattle.publish_core.specs.declared.table.Step.{Step}
use Rattle.publish_core.specs.Numbers.{state_number, sequence_number}
use Rattle.publish_core.specs.Table.{step_of}
use Rattle.publish_core.specs.Frames.{Setup, Change}
use Rattle.publish_core.specs.Refusal.{next_state}
use Rattle.publish_core.specs.Run.{CallTrace, Call, IsNewestFrame, changes, greatest_call_moment, trace_of_calls}

-- what a publisher holds: its control and table, the status number of the next state, its moment in microseconds, and
-- what it gave last
pub record PublisherState (A : Type 0) : Type 0 where
  pub control : Control A
  pub table : List Step
  pub next : ℕ
  pub moment : ℕ
  pub last : Option (Last A)

-- the change of the frame that was given last
abbrev pub change_of : {A : Type 0} → Last A → Change
change_of l = record { t = l.t; values = l.values }

-- it is the newest frame that the first n calls give: its numbers, its step, and the moment of the call that gave it
pub record HoldsNewest {A : Type 0} (p : Setup A) (t : CallTrace) (n : ℕ) (l : Last A) : Type 0 where
  pub call : ℕ
  pub c : ℕ
  pub k : ℕ
  pub newest : IsNewestFrame p.table t n call c k (change_of l)
  pub state : l.state ≡ state_number p.first c
  pub sequence : l.sequence ≡ sequence_number k
  pub step : l.step ≡ step_of p.table k
  pub given_at : l.given_at ≡ t.now call

-- what is held after the first n calls: nothing before a change, and then the newest frame
abbrev pub PublisherHolds : {A : Type 0} → Setup A → CallTrace → ℕ → Option (Last A) → Type 0
PublisherHolds p t n None = changes t n ≡ 0
PublisherHolds p t n (Some l) = HoldsNewest p t n l

-- the publisher stands after these calls: it holds what the whole list of them says
pub record PublisherStandsAfter {A : Type 0} (p : Setup A) (calls : List Call) (s : PublisherState A) : Type 0 where
  pub control : s.control ≡ p.control
  pub table : s.table ≡ p.table
  pub next : s.next ≡ next_state p calls
  pub moment : s.moment ≡ greatest_call_moment calls
  pub holds : PublisherHolds p (trace_of_calls calls) (length calls) s.last

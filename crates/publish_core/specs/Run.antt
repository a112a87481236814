-- What a publisher gives, over a list of calls in which each change is accepted.
use Rattle.std.specs.Prelude.{◌≡◌, ℕ, zero, suc, ◌+◌, ◌*◌, ◌<◌, ◌≤◌, Option, Some, None, List, [], ◌∷◌, max, take, length, slice_get, option_map}
use Rattle.frame_core.specs.declared.frame.Frame.{Frame}
use Rattle.frame_core.specs.Written.{written_frame}
use Rattle.publish_core.specs.declared.table.Step.{Step}
use Rattle.publish_core.specs.Numbers.{state_number}
use Rattle.publish_core.specs.Table.{step_at, step_of}
use Rattle.publish_core.specs.Frames.{Setup, Change, frame}

-- what a call asks for: that a change be published, which it hands in, or the frame that is due
pub data Request : Type 0 where
  Changed : Change → Request
  Polled : Request

-- a call, with the moment that it hands in, in microseconds
pub record Call : Type 0 where
  pub moment : ℕ
  pub request : Request

-- a call, by its parts
abbrev pub call : ℕ → Request → Call
call moment request = record { moment = moment; request = request }

-- what a list of calls says, position by position: the greatest moment of the calls up to there, and what the call asks for
pub record CallTrace : Type 0 where
  pub now : ℕ → ℕ
  pub request : ℕ → Option Request

-- the greatest of the moments, 0 for none
abbrev pub greatest_call_moment : List Call → ℕ
greatest_call_moment [] = 0
greatest_call_moment (c ∷ cs) = max c.moment (greatest_call_moment cs)

-- what this list of calls says, position by position
abbrev pub trace_of_calls : List Call → CallTrace
trace_of_calls calls = record { now = λ i. greatest_call_moment (take (i + 1) calls); request = λ i. option_map (λ (c : Call). c.request) (slice_get calls i) }

-- how many changes a request is, one or none
abbrev pub changes_of : Option Request → ℕ
changes_of None = 0
changes_of (Some (Changed change)) = 1
changes_of (Some Polled) = 0

-- how many of the first n calls are changes
abbrev pub changes : CallTrace → ℕ → ℕ
changes t zero = 0
changes t (suc n) = changes t n + changes_of (t.request n)

-- call i is change c, counted from 0
pub record IsChange (t : CallTrace) (i c : ℕ) (change : Change) : Type 0 where
  pub request : t.request i ≡ Some (Changed change)
  pub before : changes t i ≡ c

-- at call j the wait behind frame k, which call i gave, is over: waits are in milliseconds
abbrev pub IsDue : List Step → CallTrace → ℕ → ℕ → ℕ → Type 0
IsDue table t i k j = t.now i + 1000 * (step_at table (step_of table k)).wait_ms ≤ t.now j

-- call j is the first poll at which the wait behind frame k, which call i gave, is over, and no change comes before it
pub record IsNext (table : List Step) (t : CallTrace) (i k j : ℕ) : Type 0 where
  pub later : i < j
  pub poll : t.request j ≡ Some Polled
  pub due : IsDue table t i k j
  pub between : (h : ℕ) → i < h → h < j → (t.request h ≡ Some Polled) × ¬ IsDue table t i k h

-- Call i gives frame k of state c, which is the state of this change. A change gives frame 0 of its state, and the first
-- poll that is due behind a frame gives the next one. Nothing else gives a frame.
pub data GivesFrame (table : List Step) (t : CallTrace) : ℕ → ℕ → ℕ → Change → Type 0 where
  First : {i c : ℕ} {change : Change} → IsChange t i c change → GivesFrame table t i c 0 change
  Next : {i j c k : ℕ} {change : Change} → GivesFrame table t i c k change → IsNext table t i k j → GivesFrame table t j c (suc k) change

-- of what the first n calls give, frame k of state c is the newest, and call i gives it
pub record IsNewestFrame (table : List Step) (t : CallTrace) (n i c k : ℕ) (change : Change) : Type 0 where
  pub gives : GivesFrame table t i c k change
  pub before : i < n
  pub newest : (j d m : ℕ) (other : Change) → GivesFrame table t j d m other → j < n → j ≤ i

-- call i answers with this frame: it gives some frame k of some state c, and this is that frame
pub record AnswersFrame {A : Type 0} (p : Setup A) (t : CallTrace) (i : ℕ) (f : Frame A) : Type 0 where
  pub c : ℕ
  pub k : ℕ
  pub change : Change
  pub gives : GivesFrame p.table t i c k change
  pub is_frame : f ≡ frame p.control p.table (state_number p.first c) change k

-- what call i answers: a frame that it gives, or nothing where it gives none
abbrev pub IsAnswer : {A : Type 0} → Setup A → CallTrace → ℕ → Option (Frame A) → Type 0
IsAnswer p t i None = (c k : ℕ) (change : Change) → ¬ GivesFrame p.table t i c k change
IsAnswer p t i (Some f) = AnswersFrame p t i f

-- call i of the list publishes this frame
abbrev pub Publishes : {A : Type 0} → Setup A → List Call → ℕ → Frame A → Type 0
Publishes p calls i f = IsAnswer p (trace_of_calls calls) i (Some f)

-- call i of the list publishes nothing
abbrev pub PublishesNone : {A : Type 0} → Setup A → List Call → ℕ → Type 0
PublishesNone p calls i = IsAnswer p (trace_of_calls calls) i None

-- call i of the list publishes a frame whose written form are these octets
pub record PublishesOctets {A : Type 0} (p : Setup A) (calls : List Call) (i : ℕ) (octets : List ℕ) : Type 0 where
  pub published : Frame A
  pub publishes : Publishes p calls i published
  pub is_written : octets ≡ written_frame published

-- the answers of a whole list of calls, call by call
pub record AreAnswers {A : Type 0} (p : Setup A) (calls : List Call) (answers : List (Option (Frame A))) : Type 0 where
  pub sizes : length answers ≡ length calls
  pub each : (i : ℕ) (a : Option (Frame A)) → slice_get answers i ≡ Some a → IsAnswer p (trace_of_calls calls) i a

-- the status numbers of the calls do not wrap: that of the last change is at most 4294967295
abbrev pub NoWrap : {A : Type 0} → Setup A → List Call → Type 0
NoWrap p calls = p.first + changes (trace_of_calls calls) (length calls) ≤ 4294967295 + 1

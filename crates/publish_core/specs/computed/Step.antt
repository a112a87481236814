-- One call, by what a publisher holds: beneath the definitions over the whole list of calls, to which the laws and the
-- contracts tie it.
use Rattle.std.specs.Prelude.{◌≡◌, ℕ, ◌+◌, ◌-◌, ◌*◌, ◌==◌, Option, Some, None, Bool, nat_le, max, min, List, [], ◌∷◌, length, if◌then◌else◌}
use Rattle.frame_core.specs.declared.frame.Frame.{Frame}
use Rattle.publish_core.specs.declared.control.Control.{Control}
use Rattle.publish_core.specs.declared.publisher.Last.{Last}
use Rattle.publish_core.specs.declared.table.Step.{Step}
use Rattle.publish_core.specs.Numbers.{number_behind, sequence_number}
use Rattle.publish_core.specs.Table.{step_at, step_of}
use Rattle.publish_core.specs.Frames.{Setup, Change, frame_with}
use Rattle.publish_core.specs.Run.{Request, Changed, Polled, Call}
use Rattle.publish_core.specs.Refusal.{IsAccepted}
use Rattle.publish_core.specs.State.{PublisherState, change_of}

-- the wait behind the frame that was given last is over
abbrev pub is_due : {A : Type 0} → List Step → Last A → ℕ → Bool
is_due table l now = nat_le (l.given_at + 1000 * (step_at table l.step).wait_ms) now

-- the frame that is held
abbrev pub last_frame : {A : Type 0} → Control A → List Step → Last A → Frame A
last_frame control table l = frame_with control (change_of l) l.state l.sequence (step_at table l.step).live_ms

-- the next one, given now
abbrev pub next_last : {A : Type 0} → List Step → Last A → ℕ → Last A
next_last table l now = record l { sequence = number_behind l.sequence; step = min (l.step + 1) (length table - 1); given_at = now }

-- what is held after a poll
abbrev pub polled : {A : Type 0} → List Step → Option (Last A) → ℕ → Option (Last A)
polled table None now = None
polled table (Some l) now = if is_due table l now then Some (next_last table l now) else Some l

-- the frame that a poll gives
abbrev pub polled_frame : {A : Type 0} → Control A → List Step → Option (Last A) → ℕ → Option (Frame A)
polled_frame control table None now = None
polled_frame control table (Some l) now = if is_due table l now then Some (last_frame control table (next_last table l now)) else None

abbrev pub poll_frame : {A : Type 0} → PublisherState A → ℕ → Option (Frame A)
poll_frame s now = polled_frame s.control s.table s.last (max s.moment now)

abbrev pub poll_state : {A : Type 0} → PublisherState A → ℕ → PublisherState A
poll_state s now = record s { moment = max s.moment now; last = polled s.table s.last (max s.moment now) }

-- the first frame of a state
abbrev pub first_last : {A : Type 0} → ℕ → Change → ℕ → Last A
first_last state change now = record { t = change.t; values = change.values; state = state; sequence = 0; step = 0; given_at = now }

abbrev pub change_frame : {A : Type 0} → PublisherState A → Change → ℕ → Frame A
change_frame s change now = last_frame s.control s.table (first_last s.next change (max s.moment now))

abbrev pub change_state : {A : Type 0} → PublisherState A → Change → ℕ → PublisherState A
change_state s change now = record s {
  next = number_behind s.next;
  moment = max s.moment now;
  last = Some (first_last s.next change (max s.moment now));
}

-- the number whose octets are counted for step i: before the last step that of its one frame, at the last step the
-- greatest
abbrev pub judged_number : List Step → ℕ → ℕ
judged_number table i = if i + 1 == length table then 4294967295 else i

-- the longest frame of step i
abbrev pub judged_frame : {A : Type 0} → Control A → List Step → ℕ → Change → ℕ → Frame A
judged_frame control table state change i = frame_with control change state (judged_number table i) (step_at table i).live_ms

-- what is held is some frame k of a state that was accepted
pub record IsFrameOf {A : Type 0} (control : Control A) (table : List Step) (l : Last A) : Type 0 where
  pub k : ℕ
  pub sequence : l.sequence ≡ sequence_number k
  pub step : l.step ≡ step_of table k
  pub accepted : IsAccepted control table l.state (change_of l)

abbrev pub IsLastSound : {A : Type 0} → Control A → List Step → Option (Last A) → Type 0
IsLastSound control table None = Unit {0}
IsLastSound control table (Some l) = IsFrameOf control table l

-- what a call gives and leaves
abbrev pub request_frame : {A : Type 0} → PublisherState A → Request → ℕ → Option (Frame A)
request_frame s (Changed change) now = Some (change_frame s change now)
request_frame s Polled now = poll_frame s now

abbrev pub request_state : {A : Type 0} → PublisherState A → Request → ℕ → PublisherState A
request_state s (Changed change) now = change_state s change now
request_state s Polled now = poll_state s now

-- the answers of calls, one behind the other
abbrev pub run_calls : {A : Type 0} → PublisherState A → List Call → List (Option (Frame A))
run_calls s [] = []
run_calls s (c ∷ cs) = request_frame s c.request c.moment ∷ run_calls (request_state s c.request c.moment) cs

-- what a publisher holds before any call
abbrev pub fresh_publisher : {A : Type 0} → Setup A → PublisherState A
fresh_publisher p = record { control = p.control; table = p.table; next = p.first; moment = 0; last = None }

-- What is told of a frame and of a sample, by what came of its sender or its stream.
use Rattle.std.specs.Prelude.{ℕ, ◌+◌, ◌-◌, ◌%◌, ◌==◌, Bool, true, false, List, [], ◌∷◌, ◌++◌, Option, Some, None, if◌then◌else◌}
use Rattle.std.specs.List.{list_any}
use Rattle.loss_core.specs.declared.finding.Finding.{Finding}
use Rattle.loss_core.specs.declared.finding.Finding.TheVariants.{Silent, StatesMissing, FramesMissing, Late, Restarted, SamplesMissing, SampleRepeated, SampleLate, OutOfRange, Synch}
use Rattle.loss_core.specs.declared.missing.Missing.{Missing}
use Rattle.loss_core.specs.declared.missing.Span.{Span}
use Rattle.loss_core.specs.declared.sender.Arrival.{Arrival}
use Rattle.loss_core.specs.declared.sender.Standing.{Standing}
use Rattle.loss_core.specs.declared.sender.Standing.TheVariants as standing
use Rattle.loss_core.specs.declared.sender.Told.{Told}
use Rattle.loss_core.specs.declared.stream.Came.{Came}
use Rattle.loss_core.specs.declared.stream.Came.TheVariants as came
use Rattle.loss_core.specs.Missing.{missing_between}
use Rattle.loss_core.specs.Sender.{was_silent}

-- ---- of a frame

-- the lifetime before was over since a moment, up to this one
abbrev pub silence : Option ℕ → ℕ → List Finding
silence None moment = []
silence (Some since) moment = Silent since (moment - since) ∷ []

-- states of which no frame came
abbrev pub states_told : Option Span → List Finding
states_told None = []
states_told (Some s) = StatesMissing s ∷ []

-- frames that are missing of a state
abbrev pub frames_told : ℕ → Option Span → List Finding
frames_told state None = []
frames_told state (Some s) = FramesMissing state s ∷ []

-- what is missing, where the frame is of this state
abbrev pub missing_told : ℕ → Missing → List Finding
missing_told state m = states_told m.states ++ frames_told state m.frames

-- how the pair stands to the newest one, where the lifetime before was over or not
abbrev pub standing_told : Bool → Arrival → Standing → List Finding
standing_told silent a standing.First = []
standing_told silent a (standing.Newer newest) = missing_told a.pair.state (missing_between newest a.pair)
standing_told silent a standing.Same = []
standing_told silent a standing.Below = if silent then Restarted a.pair ∷ [] else Late a.pair ∷ []

-- what is told of a frame
abbrev pub frame_findings : Arrival → Told → List Finding
frame_findings a t = silence t.silent_since a.moment ++ standing_told (was_silent t) a t.standing

-- ---- of a sample

-- the count of the first of so many samples that are missing before one with this count
abbrev pub first_missing : ℕ → ℕ → ℕ → ℕ
first_missing period count missing = (count + (period - missing % period)) % period

-- what the count is after those before it
abbrev pub came_told : ℕ → ℕ → Came → List Finding
came_told period count came.First = []
came_told period count came.Next = []
came_told period count (came.Missing n) = SamplesMissing (first_missing period count n) n ∷ []
came_told period count came.Repeated = SampleRepeated count ∷ []
came_told period count came.Late = SampleLate count ∷ []
came_told period count came.BeforeFirst = []
came_told period count came.OutOfRange = OutOfRange count ∷ []

-- the same, where a period is given, by which the count was judged; and else nothing
abbrev pub count_told : Option ℕ → ℕ → Option Came → List Finding
count_told None count came = []
count_told (Some period) count None = []
count_told (Some period) count (Some came) = came_told period count came

-- smpSynch is another than in the ASDU before
abbrev pub synch_told : Option ℕ → ℕ → List Finding
synch_told None synch = []
synch_told (Some before) synch = if before == synch then [] else Synch before synch ∷ []

-- ---- losses among them

-- a copy, and another smpSynch, are no loss
abbrev pub is_loss : Finding → Bool
is_loss (Silent since lasted) = true
is_loss (StatesMissing s) = true
is_loss (FramesMissing state s) = true
is_loss (Late p) = true
is_loss (Restarted p) = true
is_loss (SamplesMissing from missing) = true
is_loss (SampleRepeated count) = false
is_loss (SampleLate count) = true
is_loss (OutOfRange count) = true
is_loss (Synch from to) = false

-- one of them is
abbrev pub has_loss : List Finding → Bool
has_loss findings = list_any is_loss findings

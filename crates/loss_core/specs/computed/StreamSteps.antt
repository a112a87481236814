-- What is kept of a stream, and what one more sample makes of it.
use Rattle.std.specs.Prelude.{◌≡◌, ℕ, ◌+◌, ◌-◌, ◌<◌, ◌≤◌, min, nat_lt, Option, Some, None, List, length, if◌then◌else◌}
use Rattle.loss_core.specs.declared.stream.Sample.{Sample}
use Rattle.loss_core.specs.declared.stream.Came.{Came}
use Rattle.loss_core.specs.declared.stream.Came.TheVariants as came
use Rattle.loss_core.specs.declared.stream.Newest.{Newest}
use Rattle.loss_core.specs.Stream.{AreSamplesTold, IsKnownOf, Known, by_advance}
use Rattle.loss_core.specs.computed.AdvanceSteps.{advance_by}

-- what a stream is to its callers: the period, and what is kept
pub record StreamState : Type 0 where
  pub period : ℕ
  pub newest : Option Newest

-- what is kept is what is known: of the run, and of how far it begins behind the first sample, as far as 4,294,967,295
abbrev pub Keeps : Option Known → Option Newest → Type 0
Keeps None None = Unit {0}
Keeps None (Some n) = ⊥
Keeps (Some k) None = ⊥
Keeps (Some k) (Some n) = (n.count ≡ k.count) × (n.moment ≡ k.moment) × (n.run ≡ min k.run 4294967295) × (n.begun ≡ min ((k.ahead + 1) - k.run) 4294967295) × (k.run ≤ k.ahead + 1)

-- what is kept after samples is what is known of them
abbrev pub StreamStandsAfter : List Sample → StreamState → Type 0
StreamStandsAfter samples s =
    (told : List Came) × AreSamplesTold s.period samples told × ((known : Option Known) × IsKnownOf samples told (length samples) known × Keeps known s.newest)

-- the newest count lies below the period
abbrev pub IsInRange : ℕ → Option Newest → Type 0
IsInRange period None = Unit {0}
IsInRange period (Some n) = n.count < period

-- what a sample tells by what is kept
abbrev pub came_after : ℕ → Option Newest → Sample → Came
came_after period None s = if nat_lt s.count period then came.First else came.OutOfRange
came_after period (Some n) s = if nat_lt s.count period then by_advance n.run ((n.begun + n.run) - 1) (advance_by period (s.moment - n.moment) n.count s.count) else came.OutOfRange

-- the run that is kept
abbrev pub run_of : Option Newest → ℕ
run_of None = 0
run_of (Some n) = n.run

-- how far behind the first sample the run that is kept begins
abbrev pub begun_of : Option Newest → ℕ
begun_of None = 0
begun_of (Some n) = n.begun

-- a sample as the newest one
abbrev pub newest_of : Sample → ℕ → ℕ → Newest
newest_of s run begun = record { count = s.count; moment = s.moment; run = run; begun = begun }

-- what is kept after it
abbrev pub kept_after : Option Newest → Sample → Came → Option Newest
kept_after kept s came.First = Some (newest_of s 1 0)
kept_after kept s came.Next = Some (newest_of s (min (run_of kept + 1) 4294967295) (begun_of kept))
kept_after kept s (came.Missing n) = Some (newest_of s 1 (min ((begun_of kept + run_of kept) + n) 4294967295))
kept_after kept s came.Repeated = kept
kept_after kept s came.Late = kept
kept_after kept s came.BeforeFirst = kept
kept_after kept s came.OutOfRange = kept

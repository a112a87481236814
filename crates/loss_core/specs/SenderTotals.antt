-- What a sender's frames come to in all. Numbers are sums without bound.
use Rattle.std.specs.Prelude.{◌≡◌, ℕ, ◌+◌, ◌-◌, ◌&&◌, max, min, Bool, true, false, not, Option, Some, None, List, [], ◌∷◌, length, if◌then◌else◌}
use Rattle.loss_core.specs.declared.sender.Arrival.{Arrival}
use Rattle.loss_core.specs.declared.sender.Standing.{Standing}
use Rattle.loss_core.specs.declared.sender.Standing.TheVariants as standing
use Rattle.loss_core.specs.declared.sender.Told.{Told}
use Rattle.loss_core.specs.declared.missing.Span.{Span}
use Rattle.loss_core.specs.declared.missing.Missing.{Missing}
use Rattle.loss_core.specs.declared.sender_tally.SenderTotals.{SenderTotals}
use Rattle.loss_core.specs.declared.sender_tally.SenderTally.{SenderTally}
use Rattle.loss_core.specs.Sender.{AreTold, IsKnown, is_below, restarts, sets, was_silent}
use Rattle.loss_core.specs.Missing.{missing_between}

-- how many numbers a span has
abbrev pub size : Option Span → ℕ
size None = 0
size (Some s) = s.to - s.from + 1

-- what a frame that stands so tells missing; nothing, if it is not above the newest pair
abbrev pub missing_by : Arrival → Standing → Missing
missing_by a standing.First = record { states = None; frames = None }
missing_by a (standing.Newer p) = missing_between p a.pair
missing_by a standing.Same = record { states = None; frames = None }
missing_by a standing.Below = record { states = None; frames = None }

abbrev pub missing_at : Arrival → Told → Missing
missing_at a t = missing_by a t.standing

-- the pair is the newest one again
abbrev pub is_same : Standing → Bool
is_same standing.First = false
is_same (standing.Newer p) = false
is_same standing.Same = true
is_same standing.Below = false

-- the frame is late: below the newest pair, and no restart
abbrev pub is_late : Told → Bool
is_late t = is_below t.standing && not (was_silent t)

-- the sum of a number over frames and what they tell
abbrev pub sum_of : (Arrival → Told → ℕ) → List Arrival → List Told → ℕ
sum_of number [] told = 0
sum_of number (a ∷ more) [] = 0
sum_of number (a ∷ more) (t ∷ ts) = number a t + sum_of number more ts

-- one for what is so
abbrev pub one_if : Bool → ℕ
one_if true = 1
one_if false = 0

-- how often frames tell what is so
abbrev pub count_of : (Told → Bool) → List Arrival → List Told → ℕ
count_of is frames told = sum_of (λ a t. one_if (is t)) frames told

-- what is counted of each frame
abbrev pub states_missing_at : Arrival → Told → ℕ
states_missing_at a t = size (missing_at a t).states

abbrev pub frames_missing_at : Arrival → Told → ℕ
frames_missing_at a t = size (missing_at a t).frames

abbrev pub is_repeated : Told → Bool
is_repeated t = is_same t.standing

-- the moment of the last frame that sets the lifetime, where this is that before the first of them
abbrev pub last_set : ℕ → List Arrival → List Told → ℕ
last_set moment [] told = moment
last_set moment (a ∷ more) [] = moment
last_set moment (a ∷ more) (t ∷ ts) = last_set (if sets t then a.moment else moment) more ts

-- the most microseconds from one frame that sets the lifetime to the next, where this is the moment of the one before the first
abbrev pub longest_between : ℕ → List Arrival → List Told → ℕ
longest_between moment [] told = 0
longest_between moment (a ∷ more) [] = 0
longest_between moment (a ∷ more) (t ∷ ts) = max (if sets t then a.moment - moment else 0) (longest_between (if sets t then a.moment else moment) more ts)

-- a sum as it is kept: one that would not fit stays at the greatest
abbrev pub kept : ℕ → ℕ
kept n = min n 18446744073709551615

-- what frames of a sender come to, of which the first came at this moment
pub record AreSenderTotals (start : ℕ) (frames : List Arrival) (told : List Told) (totals : SenderTotals) : Type 0 where
  pub frames_are : totals.frames ≡ kept (length frames)
  pub states_missing : totals.states_missing ≡ kept (sum_of states_missing_at frames told)
  pub frames_missing : totals.frames_missing ≡ kept (sum_of frames_missing_at frames told)
  pub late : totals.late ≡ kept (count_of is_late frames told)
  pub repeated : totals.repeated ≡ kept (count_of is_repeated frames told)
  pub restarted : totals.restarted ≡ kept (count_of restarts frames told)
  pub silent : totals.silent ≡ kept (count_of was_silent frames told)
  pub longest : totals.longest ≡ longest_between start frames told

-- a tally stands after frames: its sender does, and its totals are what they come to
abbrev pub TallyStandsAfter : List Arrival → SenderTally → Type 0
TallyStandsAfter [] s = ⊥
TallyStandsAfter (first ∷ rest) s =
    (told : List Told) × AreTold (first ∷ rest) told × (IsKnown (first ∷ rest) told (length (first ∷ rest)) (Some s.sender)
    × (AreSenderTotals first.moment (first ∷ rest) told s.totals × (s.set_at ≡ last_set first.moment (first ∷ rest) told)))

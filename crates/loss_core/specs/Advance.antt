-- How far the samples of a stream went on (IEC 61850-9-2, smpCnt): capture times tell whole seconds, counts the rest.
use Rattle.std.specs.Prelude.{◌≡◌, ℕ, ◌+◌, ◌-◌, ◌*◌, ◌%◌, ◌≤◌, nat_lt, if◌then◌else◌}
use Rattle.loss_core.specs.declared.advance.Advance.{Advance}
use Rattle.loss_core.specs.declared.advance.Advance.TheVariants.{Ahead, Back}

-- the distance of two numbers
abbrev pub distance : ℕ → ℕ → ℕ
distance a b = (a - b) + (b - a)

-- a million times the samples that so many microseconds have at a rate of period a second, and a second more
abbrev pub due : ℕ → ℕ → ℕ
due period elapsed = elapsed * period + 1000000 * period

-- Of the numbers with this rest by the period the one that is nearest to the samples due; of two as near it is the greater. It is counted from a second back, so that none is below 0.
pub record IsNearest (period elapsed rest n : ℕ) : Type 0 where
  pub congruent : n % period ≡ rest
  pub nearest : (other : ℕ) → other % period ≡ rest → distance (1000000 * n) (due period elapsed) ≤ distance (1000000 * other) (due period elapsed)
  pub greater : (other : ℕ) → other % period ≡ rest → distance (1000000 * other) (due period elapsed) ≡ distance (1000000 * n) (due period elapsed) → other ≤ n

-- the advance that a number means which is counted from a second back
abbrev pub advance_of : ℕ → ℕ → Advance
advance_of period n = if nat_lt period n then Ahead (n - period) else Back (period - n)

-- the way from one count on to another, round the period
abbrev pub way_round : ℕ → ℕ → ℕ → ℕ
way_round period from to = (to + (period - from)) % period

-- the advance from one count to another after so many microseconds
abbrev pub IsAdvance : ℕ → ℕ → ℕ → ℕ → Advance → Type 0
IsAdvance period elapsed from to a = (n : ℕ) × IsNearest period elapsed (way_round period from to) n × (a ≡ advance_of period n)

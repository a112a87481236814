-- The advance as a function.
use Rattle.std.specs.Prelude.{ℕ, ◌+◌, ◌-◌, ◌*◌, ◌/◌, ◌%◌}
use Rattle.loss_core.specs.declared.advance.Advance.{Advance}
use Rattle.loss_core.specs.Advance.{advance_of, due, way_round}

-- the greatest number that is at most half a second above the samples due
abbrev pub most : ℕ → ℕ → ℕ
most period elapsed = (2 * due period elapsed + 1000000 * period) / 2000000

-- the greatest number with this rest up to another
abbrev pub greatest_upto : ℕ → ℕ → ℕ → ℕ
greatest_upto period rest top = top - (top + (period - rest)) % period

-- the nearest number
abbrev pub nearest_to : ℕ → ℕ → ℕ → ℕ
nearest_to period elapsed rest = greatest_upto period rest (most period elapsed)

-- the advance
abbrev pub advance_by : ℕ → ℕ → ℕ → ℕ → Advance
advance_by period elapsed from to = advance_of period (nearest_to period elapsed (way_round period from to))

-- The order of things of which some have a number.
use Rattle.std.specs.Prelude.{ℕ, ◌+◌, Option, Some, None}

-- one that has none comes first, and the others by their numbers
abbrev pub rank : Option ℕ → ℕ
rank None = 0
rank (Some number) = number + 1

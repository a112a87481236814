-- The answers to counts one after another, as a function, and what a watch keeps after each.
use Rattle.std.specs.Prelude.{ℕ, ◌<◌, Option, Some, None, List, [], ◌∷◌}
use Rattle.subscribe_core.specs.declared.watch.Seen.{Seen}
use Rattle.subscribe_core.specs.declared.watch.Seen.TheVariants as seen
use Rattle.subscribe_core.specs.Watch.{seen_after}

-- the last count lies below the period
abbrev pub IsBelow : ℕ → Option ℕ → Type 0
IsBelow period None = Unit {0}
IsBelow period (Some last) = last < period

-- what is kept after a count
abbrev pub last_by : Option ℕ → ℕ → Seen → Option ℕ
last_by last count seen.First = Some count
last_by last count seen.Next = Some count
last_by last count (seen.Skipped m) = Some count
last_by last count seen.Same = last
last_by last count seen.Late = last
last_by last count seen.OutOfRange = last

-- the answers to counts one after another, as a function; a law makes it the relation `AreSeen`
abbrev pub seen_all : ℕ → Option ℕ → List ℕ → List Seen
seen_all period last [] = []
seen_all period last (c ∷ cs) = seen_after period last c ∷ seen_all period (last_by last c (seen_after period last c)) cs

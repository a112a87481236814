-- How what is looked for is found in runs, and what a cut of a run leaves.
use Rattle.std.specs.Prelude.{◌≡◌, ℕ, ◌+◌, ◌<◌, ◌≤◌, List, [], ◌∷◌, length, slice_index_or, Bool, true, false, Result, Ok, Err}
use Rattle.std.specs.Ordering.{is_gt}
use Rattle.std.specs.declared.cmp.Ordering.{Ordering}
use Rattle.std.specs.declared.vec.Vec.{Vec}
use Rattle.known_core.specs.declared.runs.Runs.{Runs}
use Rattle.known_core.specs.declared.runs.Place.{Place}
use Rattle.known_core.specs.computed.Held.{InOrderFor, IsAt, IsCompact, IsGap, TakesPlace, held, in_run, position_of}

-- a run begins behind what is looked for
abbrev pub begins_behind : {E : Type 0} → (E → Ordering) → List E → Bool
begins_behind by [] = true
begins_behind by (x ∷ xs) = is_gt (by x)

-- this run, if it is not the first, does not begin behind what is looked for, and the next does
pub record IsRunOf {E A : Type 0} (by : E → Ordering) (runs : List (Vec E A)) (at : ℕ) : Type 0 where
  pub within : 0 < length runs → at < length runs
  pub here : 0 < at → (d : Vec E A) → begins_behind by (in_run (slice_index_or runs at d)) ≡ false
  pub next : at + 1 < length runs → (d : Vec E A) → begins_behind by (in_run (slice_index_or runs (at + 1) d)) ≡ true

-- a search in one run finds it, or its gap where they stand in order
abbrev pub AnswersSearch : {E : Type 0} → (E → Ordering) → List E → Result ℕ ℕ → Type 0
AnswersSearch by run (Ok at) = IsAt by run at
AnswersSearch by run (Err at) = (at ≤ length run) × (InOrderFor by run → IsGap by run at)

-- the same is held, and this place is where that one was
pub record MovesPlace {E A : Type 0} (old new : Runs E A) (place moved : Place) : Type 0 where
  pub same : held new ≡ held old
  pub position : position_of new moved ≡ position_of old place
  pub takes : TakesPlace new moved
  pub within : moved.run < length new.runs.items
  pub runs : IsCompact old → IsCompact new

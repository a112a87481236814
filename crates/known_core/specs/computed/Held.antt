-- Entries that are held in runs, and their places.
use Rattle.std.specs.Prelude.{◌≡◌, ℕ, ◌+◌, ◌<◌, ◌≤◌, List, [], length, take, slice_index_or, slice_set, vec_capacity, Result, Ok, Err}
use Rattle.std.specs.List.{flat_map, insert}
use Rattle.std.specs.List.Sorted.{IsNonDecreasingBy}
use Rattle.std.specs.Ordering.{ordering_index}
use Rattle.std.specs.declared.cmp.Ordering.{Ordering}
use Rattle.std.specs.declared.cmp.Ordering.TheVariants.{Less, Equal, Greater}
use Rattle.std.specs.declared.vec.Vec.{Vec}
use Rattle.known_core.specs.declared.runs.Runs.{Runs}
use Rattle.known_core.specs.declared.runs.Place.{Place}

-- the entries of a run
abbrev pub in_run : {E A : Type 0} → Vec E A → List E
in_run run = run.items

-- the entries of runs, one behind the other
abbrev pub in_runs : {E A : Type 0} → List (Vec E A) → List E
in_runs runs = flat_map in_run runs

-- what is held
abbrev pub held : {E A : Type 0} → Runs E A → List E
held known = in_runs known.runs.items

-- a run has an entry, and room for at most eight more than it has
pub record IsRun {E A : Type 0} (run : Vec E A) : Type 0 where
  pub some : 0 < length (in_run run)
  pub room : vec_capacity run ≤ length (in_run run) + 8

-- runs are such, and each but the last has 32 entries or more
pub record AreRuns {E A : Type 0} (runs : List (Vec E A)) : Type 0 where
  pub each : (i : ℕ) (d : Vec E A) → i < length runs → IsRun (slice_index_or runs i d)
  pub many : (i : ℕ) (d : Vec E A) → i + 1 < length runs → 32 ≤ length (in_run (slice_index_or runs i d))

-- what is held lies in such runs, so it has little idle room
abbrev pub IsCompact : {E A : Type 0} → Runs E A → Type 0
IsCompact known = AreRuns known.runs.items

-- no run is empty
abbrev pub NoneEmpty : {E A : Type 0} → Runs E A → Type 0
NoneEmpty {E} {A} known = (i : ℕ) (d : Vec E A) → i < length known.runs.items → 0 < length (in_run (slice_index_or known.runs.items i d))

-- where a place is among all that is held
abbrev pub position_of : {E A : Type 0} → Runs E A → Place → ℕ
position_of known place = length (in_runs (take place.run known.runs.items)) + place.at

-- there is one at the place
pub record IsPlace {E A : Type 0} (known : Runs E A) (place : Place) : Type 0 where
  pub in_runs : place.run < length known.runs.items
  pub in_run : (d : Vec E A) → place.at < length (in_run (slice_index_or known.runs.items place.run d))

-- one can be put at the place: into its run, or as the first of all
pub record TakesPlace {E A : Type 0} (known : Runs E A) (place : Place) : Type 0 where
  pub in_run : (d : Vec E A) → place.run < length known.runs.items → place.at ≤ length (in_run (slice_index_or known.runs.items place.run d))
  pub first : length known.runs.items ≤ place.run → (known.runs.items ≡ []) × (place.at ≡ 0)

-- entries stand in order for what is looked for: those before it, those that are it, those behind it
abbrev pub InOrderFor : {E : Type 0} → (E → Ordering) → List E → Type 0
InOrderFor by entries = IsNonDecreasingBy (λ one. ordering_index (by one)) entries

-- the one at this position is what is looked for
pub record IsAt {E : Type 0} (by : E → Ordering) (entries : List E) (at : ℕ) : Type 0 where
  pub within : at < length entries
  pub is : (d : E) → by (slice_index_or entries at d) ≡ Equal

-- those before this position stand before what is looked for, and the others behind it
pub record IsGap {E : Type 0} (by : E → Ordering) (entries : List E) (at : ℕ) : Type 0 where
  pub within : at ≤ length entries
  pub below : (i : ℕ) (d : E) → i < at → by (slice_index_or entries i d) ≡ Less
  pub above : (i : ℕ) (d : E) → at ≤ i → i < length entries → by (slice_index_or entries i d) ≡ Greater

-- a search finds a place that has it, or, where all stand in order for it, the place in its gap
abbrev pub AnswersPlace : {E A : Type 0} → (E → Ordering) → Runs E A → Result Place Place → Type 0
AnswersPlace by known (Ok place) = IsPlace known place × IsAt by (held known) (position_of known place)
AnswersPlace by known (Err place) = TakesPlace known place × (NoneEmpty known → InOrderFor by (held known) → IsGap by (held known) (position_of known place))

-- the same is held, as compact as before
pub record HoldsSame {E A : Type 0} (old new : Runs E A) : Type 0 where
  pub same : held new ≡ held old
  pub runs : IsCompact old → IsCompact new

-- another is at the place, and all else stays
pub record WritesOne {E A : Type 0} (old new : Runs E A) (place : Place) (one : E) : Type 0 where
  pub written : held new ≡ slice_set (held old) (position_of old place) one
  pub runs : IsCompact old → IsCompact new

-- one more is held, at the place
pub record PutsOne {E A : Type 0} (old new : Runs E A) (place : Place) (one : E) : Type 0 where
  pub put : held new ≡ insert (held old) (position_of old place) one
  pub runs : IsCompact old → IsCompact new

-- Positions of entries, in the order of the entries' keys.
use Rattle.std.specs.Prelude.{◌≡◌, ℕ, ◌<◌, List, length, slice_get, slice_index_or, Option, Some, None, Result, Ok, Err}
use Rattle.std.specs.declared.cmp.Ordering.{Ordering}
use Rattle.std.specs.declared.cmp.Ordering.TheVariants.{Greater}
use Rattle.known_core.specs.declared.runs.Runs.{Runs}
use Rattle.known_core.specs.declared.runs.Place.{Place}
use Rattle.known_core.specs.computed.Held.{InOrderFor, IsAt, IsCompact, IsGap, NoneEmpty, TakesPlace, held, position_of}
use Rattle.known_core.specs.computed.Order.{Ascends}

-- how an entry stands to what is looked for, if there is one
abbrev pub stands_if : {E : Type 0} → (E → Ordering) → Option E → Ordering
stands_if by None = Greater
stands_if by (Some one) = by one

-- a position stands as the entry there does
abbrev pub stands_at : {E : Type 0} → (E → Ordering) → List E → ℕ → Ordering
stands_at by entries position = stands_if by (slice_get entries position)

-- a search finds the position of an entry that is what is looked for, or, where all positions stand in order for it, the place in its gap
abbrev pub AnswersPosition : {E A : Type 0} → (E → Ordering) → List E → Runs ℕ A → Result ℕ Place → Type 0
AnswersPosition by entries positions (Ok at) = IsAt by entries at
AnswersPosition by entries positions (Err place) =
    TakesPlace positions place
    × (NoneEmpty positions → InOrderFor (stands_at by entries) (held positions) → IsGap (stands_at by entries) (held positions) (position_of positions place))

-- each position of entries stands among these once, in the order of the keys that entries have
pub record AreInOrder {E K A : Type 0} (cmp : K → K → Ordering) (key : E → K) (entries : List E) (positions : Runs ℕ A) : Type 0 where
  pub compact : IsCompact positions
  pub within : (i d : ℕ) → i < length (held positions) → slice_index_or (held positions) i d < length entries
  pub all : (p : ℕ) → p < length entries → (i : ℕ) × (i < length (held positions)) × ((d : ℕ) → slice_index_or (held positions) i d ≡ p)
  pub order : (d : E) → Ascends cmp (λ p. key (slice_index_or entries p d)) (held positions)

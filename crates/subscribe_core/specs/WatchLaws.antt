-- What the definitions of the counter of samples say together.
use Rattle.std.specs.Prelude.{◌≡◌, ℕ, ◌+◌, ◌-◌, ◌*◌, ◌%◌, ◌<◌, ◌⊎◌, max, None, List, [], ◌∷◌, map}
use Rattle.block_core.specs.Period.{IsPeriod}
use Rattle.subscribe_core.specs.declared.watch.Seen.{Seen}
use Rattle.subscribe_core.specs.declared.watch.Seen.TheVariants as seen
use Rattle.subscribe_core.specs.Watch.{AreSeen}
use Rattle.subscribe_core.specs.computed.WatchAnswers.{seen_all}

-- Indexes of samples without bound, of which the counts are the rests by the period. Each index is one above the greatest
-- before it, or less than half a period away from that.
abbrev pub GoesOn : ℕ → ℕ → List ℕ → Type 0
GoesOn period greatest [] = Unit {0}
GoesOn period greatest (k ∷ ks) =
    ((k ≡ greatest + 1) ⊎ (2 * ((k - greatest) + (greatest - k)) < period)) × GoesOn period (max greatest k) ks

-- the greatest of these indexes
abbrev pub greatest_index : ℕ → List ℕ → ℕ
greatest_index greatest [] = greatest
greatest_index greatest (k ∷ ks) = greatest_index (max greatest k) ks

-- how far an answer goes on: one for Next and for Skipped, and the count of those skipped
abbrev pub advance : Seen → ℕ
advance seen.First = 0
advance seen.Next = 1
advance (seen.Skipped m) = 1 + m
advance seen.Same = 0
advance seen.Late = 0
advance seen.OutOfRange = 0

-- how far several answers go on in all
abbrev pub advances : List Seen → ℕ
advances [] = 0
advances (s ∷ ss) = advance s + advances ss

-- over such indexes the Next and Skipped answers, with the counts of those skipped, add up to the greatest index minus the
-- first
abbrev pub SkipsAddUp : Type 0
SkipsAddUp =
    (period first : ℕ) (rest : List ℕ) (answers : List Seen) → IsPeriod period → GoesOn period first rest →
    AreSeen period (map (λ k. k % period) (first ∷ rest)) answers → first + advances answers ≡ greatest_index first rest

-- every list of counts has answers, those of the function, and they are one
abbrev pub SeenAreOne : Type 0
SeenAreOne =
    (period : ℕ) (counts : List ℕ) →
    AreSeen period counts (seen_all period None counts) ×
    ((a b : List Seen) → AreSeen period counts a → AreSeen period counts b → a ≡ b)

-- The counter of samples (IEC 61850-9-2, smpCnt): what each count is after the counts before it (profile). All is said by
-- positions in the list of counts.
use Rattle.std.specs.Prelude.{◌≡◌, ℕ, ◌+◌, ◌-◌, ◌*◌, ◌%◌, ◌<◌, ◌==◌, nat_lt, Bool, true, false, Option, Some, None, List, [], ◌∷◌, ◌++◌, length, slice_get, if◌then◌else◌}
use Rattle.subscribe_core.specs.declared.watch.Seen.{Seen}
use Rattle.subscribe_core.specs.declared.watch.Seen.TheVariants as seen

-- the way from the last count on to a count, round the period
abbrev pub way : ℕ → ℕ → ℕ → ℕ
way period last count = (count + (period - last)) % period

-- what a count in range is, by its way from the last count: none, one, or less than half the period, and else it is late
abbrev pub by_way : ℕ → ℕ → Seen
by_way period d =
    if d == 0 then seen.Same
    else if d == 1 then seen.Next
    else if nat_lt (2 * d) period then seen.Skipped (d - 1)
    else seen.Late

-- what a count is, by the last count if there is one
abbrev pub seen_after : ℕ → Option ℕ → ℕ → Seen
seen_after period None count = if nat_lt count period then seen.First else seen.OutOfRange
seen_after period (Some last) count = if nat_lt count period then by_way period (way period last count) else seen.OutOfRange

-- First, Next and Skipped make their count the last one
abbrev pub moves : Seen → Bool
moves seen.First = true
moves seen.Next = true
moves (seen.Skipped m) = true
moves seen.Same = false
moves seen.Late = false
moves seen.OutOfRange = false

-- the last count before i: that of the newest position before i whose answer is First, Next or Skipped, if there is one
abbrev pub IsLastCount : List ℕ → List Seen → ℕ → Option ℕ → Type 0
IsLastCount counts answers i None = (j : ℕ) (s : Seen) → j < i → slice_get answers j ≡ Some s → moves s ≡ false
IsLastCount counts answers i (Some count) =
    (j : ℕ) × (s : Seen) × (j < i) × (slice_get answers j ≡ Some s) × (moves s ≡ true) × (slice_get counts j ≡ Some count) ×
    ((k : ℕ) (r : Seen) → j < k → k < i → slice_get answers k ≡ Some r → moves r ≡ false)

-- the answers to counts: each is what its count is by the last count before it
pub record AreSeen (period : ℕ) (counts : List ℕ) (answers : List Seen) : Type 0 where
  pub sizes : length answers ≡ length counts
  pub each : (i count : ℕ) (s : Seen) → slice_get counts i ≡ Some count → slice_get answers i ≡ Some s →
      (last : Option ℕ) × IsLastCount counts answers i last × (s ≡ seen_after period last count)

-- the answer to a count after others
abbrev pub IsSeenLast : ℕ → List ℕ → ℕ → Seen → Type 0
IsSeenLast period counts count s = (answers : List Seen) × AreSeen period (counts ++ count ∷ []) (answers ++ s ∷ [])

-- what a watch keeps: the period, and the last count if there is one
pub record WatchState : Type 0 where
  pub period : ℕ
  pub last : Option ℕ

-- it keeps what the counts say
abbrev pub WatchesAfter : List ℕ → WatchState → Type 0
WatchesAfter counts w = (answers : List Seen) × AreSeen w.period counts answers × IsLastCount counts answers (length counts) w.last

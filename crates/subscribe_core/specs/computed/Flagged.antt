-- The positions of the blocks that take simulated frames.
use Rattle.std.specs.Prelude.{◌≡◌, ℕ, ◌+◌, Bool, ◌==◌, List, [], ◌∷◌, map, slice_index_or, if◌then◌else◌}
use Rattle.subscribe_core.specs.declared.entry.Entry.{Entry}
use Rattle.subscribe_core.specs.declared.entry.Entry.TheVariants as says
use Rattle.subscribe_core.specs.declared.registers.Register.{Register}
use Rattle.subscribe_core.specs.State.{idle}

-- whether the block at a position takes simulated frames
abbrev pub flag_at : List Register → ℕ → Bool
flag_at rs p = (slice_index_or rs p idle).takes_simulated

-- how often a position stands in a list
abbrev pub times : ℕ → List ℕ → ℕ
times p [] = 0
times p (q ∷ qs) = if q == p then times p qs + 1 else times p qs

-- a position stands there once where its block takes simulated frames, and else not at all
abbrev pub AreFlagged : List ℕ → List Register → Type 0
AreFlagged positions rs = (p : ℕ) → times p positions ≡ (if flag_at rs p then 1 else 0)

-- the positions of the blocks that take simulated frames, in their order; the first block has position b
abbrev pub flagged_positions : ℕ → List Register → List ℕ
flagged_positions b [] = []
flagged_positions b (r ∷ rs) = if r.takes_simulated then b ∷ flagged_positions (b + 1) rs else flagged_positions (b + 1) rs

-- how many they are
abbrev pub flagged_count : List Register → ℕ
flagged_count [] = 0
flagged_count (r ∷ rs) = if r.takes_simulated then flagged_count rs + 1 else flagged_count rs

-- a Switched entry for each of these positions
abbrev pub switched_at : {A : Type 0} → List ℕ → List (Entry A)
switched_at ps = map (λ (p : ℕ). says.Switched p) ps

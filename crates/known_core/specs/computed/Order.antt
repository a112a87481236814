-- Entries in the order of their keys.
use Rattle.std.specs.Prelude.{◌≡◌, ℕ, ◌<◌, List, length, slice_index_or}
use Rattle.std.specs.declared.cmp.Ordering.{Ordering}
use Rattle.std.specs.declared.cmp.Ordering.TheVariants.{Less}

-- each entry comes before those behind it
abbrev pub Ascends : {E K : Type 0} → (K → K → Ordering) → (E → K) → List E → Type 0
Ascends {E} cmp key entries = (i j : ℕ) (d : E) → i < j → j < length entries → cmp (key (slice_index_or entries i d)) (key (slice_index_or entries j d)) ≡ Less

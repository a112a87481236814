-- The blocks' names in order, each with the position of its block.
use Rattle.std.specs.Prelude.{◌≡◌, ℕ, ◌+◌, ◌<◌, ◌≤◌, List, Option, Some, None, min, slice_get}
use Rattle.std.specs.List.{Contains}
use Rattle.std.specs.List.Sorted.{IsSortedBy}
use Rattle.std.specs.Ordering.{nat_cmp, is_lt, ordering_then}
use Rattle.std.specs.Cmp.Lexicographic.{slice_cmp}
use Rattle.std.specs.declared.cmp.Ordering.{Ordering}
use Rattle.block_core.specs.declared.block.Block.{Block}
use Rattle.subscribe_core.specs.declared.names.Name.{Name}

-- names are ordered by APPID, and then by gocbRef
abbrev pub key_cmp : ℕ × List ℕ → ℕ × List ℕ → Ordering
key_cmp x y = ordering_then (nat_cmp x.0 y.0) (slice_cmp nat_cmp x.1 y.1)

abbrev pub key_of : {A : Type 0} → Name A → ℕ × List ℕ
key_of n = (n.app_id, n.gocb_ref)

abbrev pub block_key : {A : Type 0} → Block A → ℕ × List ℕ
block_key b = (b.app_id, b.gocb_ref)

-- the names stand in order
abbrev pub AreSorted : {A : Type 0} → List (Name A) → Type 0
AreSorted names = IsSortedBy (λ a b. is_lt (key_cmp (key_of a) (key_of b))) names

-- a name with its position; those of one key are ordered by it
abbrev pub place_cmp : (ℕ × List ℕ) × ℕ → (ℕ × List ℕ) × ℕ → Ordering
place_cmp x y = ordering_then (key_cmp x.0 y.0) (nat_cmp x.1 y.1)

abbrev pub place_of : {A : Type 0} → Name A → (ℕ × List ℕ) × ℕ
place_of n = (key_of n, n.position)

-- the names stand in order, and those of one key by their positions
abbrev pub ArePlaced : {A : Type 0} → List (Name A) → Type 0
ArePlaced names = IsSortedBy (λ a b. is_lt (place_cmp (place_of a) (place_of b))) names

-- the name behind that at k is for the block at i, and has the key of that at k, which is for an earlier block
abbrev pub IsAgainAt : {A : Type 0} → List (Name A) → ℕ → ℕ → Type 0
IsAgainAt {A} names k i =
    (a : Name A) × (b : Name A) × (slice_get names k ≡ Some a) × (slice_get names (k + 1) ≡ Some b) × (key_of a ≡ key_of b) × (a.position < b.position) × (b.position ≡ i)

-- the least position of such a name among the first n
abbrev pub IsLeastAgain : {A : Type 0} → List (Name A) → ℕ → Option ℕ → Type 0
IsLeastAgain names n None = (k i : ℕ) → k + 1 < n → IsAgainAt names k i → ⊥
IsLeastAgain names n (Some least) =
    ((k : ℕ) × (k + 1 < n) × IsAgainAt names k least) × ((k i : ℕ) → k + 1 < n → IsAgainAt names k i → least ≤ i)

-- the lesser of a number and one that may be there
abbrev pub lesser_of : Option ℕ → ℕ → Option ℕ
lesser_of None at = Some at
lesser_of (Some least) at = Some (min least at)

-- a name with this key and position is among them
abbrev pub HasName : {A : Type 0} → List (Name A) → ℕ × List ℕ → ℕ → Type 0
HasName {A} names key at = (n : Name A) × Contains names n × (key_of n ≡ key) × (n.position ≡ at)

-- each name is that of the block at its position, and each block's name is there
pub record AreNamesOf {A : Type 0} (names : List (Name A)) (blocks : List (Block A)) : Type 0 where
  pub sound : (n : Name A) → Contains names n → (b : Block A) × (slice_get blocks n.position ≡ Some b) × (block_key b ≡ key_of n)
  pub whole : (at : ℕ) (b : Block A) → slice_get blocks at ≡ Some b → HasName names (block_key b) at

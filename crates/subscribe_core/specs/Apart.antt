-- Which control blocks have one name: a subscriber takes none twice.
use Rattle.std.specs.Prelude.{◌≡◌, ℕ, ◌<◌, Some, List, slice_get}
use Rattle.block_core.specs.declared.block.Block.{Block}

-- two blocks have one name
abbrev pub HasNameOf : {A : Type 0} → Block A → Block A → Type 0
HasNameOf a b = (a.app_id ≡ b.app_id) × (a.gocb_ref ≡ b.gocb_ref)

-- no two blocks have one name
abbrev pub AreApart : {A : Type 0} → List (Block A) → Type 0
AreApart {A} blocks =
    (i j : ℕ) (a b : Block A) → slice_get blocks i ≡ Some a → slice_get blocks j ≡ Some b → HasNameOf a b → i ≡ j

-- the block at i has the name of an earlier one
abbrev pub IsTwice : {A : Type 0} → List (Block A) → ℕ → Type 0
IsTwice {A} blocks i =
    (j : ℕ) × (a : Block A) × (b : Block A) × (j < i) × (slice_get blocks j ≡ Some a) × (slice_get blocks i ≡ Some b) × HasNameOf a b

-- it is the first such
abbrev pub IsFirstTwice : {A : Type 0} → List (Block A) → ℕ → Type 0
IsFirstTwice blocks i = IsTwice blocks i × ((j : ℕ) → j < i → ¬ IsTwice blocks j)

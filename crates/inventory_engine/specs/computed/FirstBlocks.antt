-- The control blocks that are listed as they are computed: by the newest text of each key.
use Rattle.std.specs.Prelude.{◌≡◌, List, [], ◌∷◌, ◌++◌, filter_map, map}
use Rattle.block_core.specs.declared.block.Block.{Block}
use Rattle.block_core.specs.BlockText.{block_in}
use Rattle.inventory_engine.specs.declared.listing.FoundBlocks.{FoundBlocks}
use Rattle.inventory_engine.specs.ListedBlocks.{first_after, listed_of}
use Rattle.inventory_engine.specs.Sightings.{Sighting, key_of}
use Rattle.inventory_engine.specs.computed.BlocksStep.{Keeps, newest}
use Rattle.inventory_engine.specs.computed.KnownTexts.{Inventory}

-- what is listed of each of some sightings behind earlier ones
abbrev pub firsts_by : List Sighting → List Sighting → List (List Sighting)
firsts_by earlier [] = []
firsts_by earlier (s ∷ seen) = first_after s (newest earlier (key_of s)) ∷ firsts_by (earlier ++ s ∷ []) seen

-- what is listed of them all
abbrev pub firsts_of : List Sighting → List Sighting → List Sighting
firsts_of earlier [] = []
firsts_of earlier (s ∷ seen) = first_after s (newest earlier (key_of s)) ++ firsts_of (earlier ++ s ∷ []) seen

-- the blocks that the texts of sightings say
abbrev pub named_by : {A : Type 0} → List Sighting → List (Block A)
named_by sightings = filter_map (λ s. block_in s.text) sightings

-- these sightings are listed more
pub record ListsMore {A : Type 0} (sightings : List Sighting) (old new : FoundBlocks A) : Type 0 where
  pub listed : new.listed.items ≡ old.listed.items ++ map listed_of sightings
  pub blocks : new.blocks.items ≡ old.blocks.items ++ named_by sightings

-- what sightings show is held, and the first ones of control blocks are listed
abbrev pub NotesSightings : {A : Type 0} → List Sighting → Inventory A → Inventory A → FoundBlocks A → FoundBlocks A → Type 0
NotesSightings seen known after old new = (earlier : List Sighting) → Keeps known earlier → Keeps after (earlier ++ seen) × ListsMore (firsts_of earlier seen) old new

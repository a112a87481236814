-- The control blocks that `blocks` lists by a line `block`, in the order of these lines: what `replay` takes of a file.
use Rattle.std.specs.Prelude.{◌≡◌, ℕ, List, [], ◌∷◌, ◌++◌, drop, filter_map, is_some, length, map, slice_get, take, Option, Some, None, Ok, Err, if◌then◌else◌}
use Rattle.std.specs.List.{flat_map}
use Rattle.block_core.specs.declared.block.Block.{Block}
use Rattle.block_core.specs.BlockText.{block_in}
use Rattle.list_core.specs.ReadItems.{AnswerOf}
use Rattle.list_core.specs.declared.event.Event.{Event}
use Rattle.engine_core.specs.Input.{GaveThen, Input, IsRead, Reader}
use Rattle.list_core.specs.declared.device.InputEnd.{InputEnd}
use Rattle.object_core.specs.Onward.{onward}
use Rattle.inventory_engine.specs.declared.listed_block.ListedBlock.{ListedBlock}
use Rattle.inventory_engine.specs.Sightings.{Sighting, key_of, sightings_in}
use Rattle.inventory_engine.specs.BlocksText.{IsNewest}

-- a control block as it is listed: the text of its line, its fields behind that text in an object, and whether the text is a BLOCK
abbrev pub listed_of : {A : Type 0} → Sighting → ListedBlock A
listed_of {A} s = record { text = s.text; fields = onward (drop 1 s.fields); is_named = is_some (block_in {A = A} s.text) }

-- what is listed of a sighting, by the newest earlier one with its key: itself, where it is of a control block and there is none
abbrev pub first_after : Sighting → Option (List ℕ) → List Sighting
first_after s (Some newest) = []
first_after s None = if is_some s.app_id then s ∷ [] else []

-- what is listed of a sighting after others: by the newest of them with its key
pub record IsFirstAfter (others : List Sighting) (s : Sighting) (first : List Sighting) : Type 0 where
  pub newest : Option (List ℕ)
  pub is_newest : IsNewest others (key_of s) newest
  pub is_first : first ≡ first_after s newest

-- what is listed of sightings: of each by those before it
pub record AreFirsts (earlier seen : List Sighting) (firsts : List (List Sighting)) : Type 0 where
  pub sizes : length firsts ≡ length seen
  pub each : (i : ℕ) (s : Sighting) (first : List Sighting) → slice_get seen i ≡ Some s → slice_get firsts i ≡ Some first → IsFirstAfter (earlier ++ take i seen) s first

-- these are the sightings that `blocks` tells by a line `block`, in the order of their lines
pub record AreListed (seen listed : List Sighting) : Type 0 where
  pub firsts : List (List Sighting)
  pub are_firsts : AreFirsts [] seen firsts
  pub all : listed ≡ flat_map (λ first. first) firsts

-- what is found of the control blocks among sightings: all that are listed, and those that a BLOCK can name
pub record AreFound {A : Type 0} (seen : List Sighting) (listed : List (ListedBlock A)) (blocks : List (Block A)) : Type 0 where
  pub sightings : List Sighting
  pub are_listed : AreListed seen sightings
  pub is_listed : listed ≡ map listed_of sightings
  pub are_named : blocks ≡ filter_map (λ s. block_in s.text) sightings

-- the answer ends an input: it has no more items, or a fault
abbrev pub EndsItems : {X F : Type 0} → AnswerOf X F → Type 0
EndsItems (Ok None) = Unit {0}
EndsItems (Err (Some f)) = Unit {0}
EndsItems _ = ⊥

-- a reader gave events and then an answer that ends them, and that is found of the events
pub record FindsOver {A I C F : Type 0} (reader : Reader I (Event A) C F) (start end : I) (listed : List (ListedBlock A)) (blocks : List (Block A)) : Type 0 where
  pub items : List (ℕ × Event A)
  pub answer : AnswerOf (Event A) F
  pub gave : GaveThen reader start end items answer
  pub ends : EndsItems answer
  pub found : AreFound (sightings_in items) listed blocks

-- of an input of which these octets were read, that is found of its events up to the answer that ends them
pub record FindsOf {A C F : Type 0} (input : Input (Event A) C F) (z : InputEnd) (read : List ℕ) (listed : List (ListedBlock A)) (blocks : List (Block A)) : Type 0 where
  pub items : List (ℕ × Event A)
  pub answer : AnswerOf (Event A) F
  pub read_so : IsRead input z read items answer
  pub ends : EndsItems answer
  pub found : AreFound (sightings_in items) listed blocks

-- What holds of the lines of sightings.
use Rattle.std.specs.Prelude.{◌≡◌, ℕ, ◌<◌, ◌≤◌, true, List, Some, None, take}
use Rattle.block_core.specs.declared.block.Block.{Block}
use Rattle.block_core.specs.BlockText.{block_in, go_id_of}
use Rattle.pdu_core.specs.declared.goose.GoosePdu.{GoosePdu}
use Rattle.pdu_core.specs.Spellable.{IsSpellableGoose}
use Rattle.inventory_engine.specs.Configuration.{Configuration, configuration_of}
use Rattle.inventory_engine.specs.Sightings.{Key, Sighting, block_text, has_fields, text_or_none}
use Rattle.inventory_engine.specs.BlocksText.{AreLines, HasKeyAt, IsNewest, Telling}

-- what is written of some sightings behind earlier ones is one
abbrev pub LinesAreOne : Type 0
LinesAreOne = (t : Telling) (earlier seen : List Sighting) (a b : List (List ℕ)) → AreLines t earlier seen a → AreLines t earlier seen b → a ≡ b

-- at this position stands a sighting with the key, and none before it: there its first line is written
pub record IsFirst (seen : List Sighting) (key : Key) (i : ℕ) : Type 0 where
  pub is : HasKeyAt seen key i
  pub none_before : IsNewest (take i seen) key None

-- one position is the first of the key, and it is no later than this one
pub record HasOneFirst (seen : List Sighting) (key : Key) (j : ℕ) : Type 0 where
  pub position : ℕ
  pub is_first : IsFirst seen key position
  pub no_later : position ≤ j
  pub only : (k : ℕ) → IsFirst seen key k → k ≡ position

-- of each control block and stream that occurs there is exactly one first line
abbrev pub OneFirstLine : Type 0
OneFirstLine = (seen : List Sighting) (key : Key) (j : ℕ) → HasKeyAt seen key j → HasOneFirst seen key j

-- the control block that is configured so, as replay awaits it: an empty goID is not compared
abbrev pub block_told : {A : Type 0} → Configuration → Block A
block_told c = record { app_id = c.app_id; gocb_ref = c.gocb_ref; dat_set = c.dat_set; go_id = go_id_of (text_or_none c.go_id); conf_rev = c.conf_rev; entries = c.entries }

-- the text of a control block that is a BLOCK says the block that the frame shows; an APDU that octets spell is spellable
abbrev pub BlocksReadBack : Type 0 → Type 0
BlocksReadBack A =
    (app_id : ℕ) (p : GoosePdu (Unit {0})) → app_id < 65536 → IsSpellableGoose p → has_fields (configuration_of app_id p) ≡ true →
    block_in {A = A} (block_text (configuration_of app_id p)) ≡ Some (block_told (configuration_of app_id p))

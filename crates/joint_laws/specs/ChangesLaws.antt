-- What holds of a replay that tells changes alone, beside one that tells all entries.
use Rattle.std.specs.Prelude.{◌≡◌, ℕ, Bool, true, false, List, filter}
use Rattle.list_core.specs.declared.event.Event.{Event}
use Rattle.block_core.specs.declared.block.Block.{Block}
use Rattle.subscribe_core.specs.Apart.{AreApart}
use Rattle.subscribe_core.specs.Changes.{changes}
use Rattle.subscribe_core.specs.declared.entry.Entry.{Entry}
use Rattle.subscribe_core.specs.declared.entry.Entry.TheVariants as says
use Rattle.exchange_engines.specs.ReplayText.{AreTold, Says}

-- the entry is an action, an expiry or a switch
abbrev pub is_turn : {A : Type 0} → Entry A → Bool
is_turn (says.Expired block) = true
is_turn (says.Switched block) = true
is_turn (says.Act block state sequence t members) = true
is_turn (says.Refreshed block state sequence) = false
is_turn (says.Repeated block state sequence) = false
is_turn (says.Older block state sequence) = false
is_turn (says.Refused block reason) = false
is_turn says.NotSubscribed = false
is_turn says.Sampled = false
is_turn (says.Faulty fault) = false

-- Of an event both tell the same actions, expiries and switches, and of all entries the one tells the changes.
pub record TellsTurns {A : Type 0} (few all : List (Entry A)) : Type 0 where
  pub turns : filter is_turn few ≡ filter is_turn all
  pub changes : few ≡ changes all

-- so of each event after others, for blocks that are apart, with simulated frames from the start or not
abbrev pub ChangesKeepTurns : Type 0 → Type 0
ChangesKeepTurns A =
    (simulates : Bool) (blocks : List (Block A)) (few all : Says A) → AreApart blocks → AreTold (record { simulates = simulates; changes_alone = true }) blocks few
    → AreTold (record { simulates = simulates; changes_alone = false }) blocks all → (before : List (ℕ × Event A)) (e : ℕ × Event A) → TellsTurns (few before e) (all before e)

-- What holds of the replay of a list that is written.
use Rattle.std.specs.Prelude.{◌<◌, List, [], ◌∷◌, length, Option}
use Rattle.list_core.specs.declared.event.Event.{Event}
use Rattle.frame_core.specs.declared.frame.Frame.{Frame}
use Rattle.list_core.specs.declared.list_fault.ListCause.{ListCause}
use Rattle.publish_core.specs.Frames.{Setup}
use Rattle.publish_core.specs.Run.{Call}
use Rattle.block_core.specs.declared.block.Block.{Block}
use Rattle.subscribe_core.specs.declared.entry.Entry.{Entry}
use Rattle.subscribe_core.specs.Entries.{AreEntries}
use Rattle.subscribe_core.specs.Apart.{AreApart}
use Rattle.joint_laws.specs.PublishedList.{IsWholeRun, one_entry_each, published_events, sent_from}
use Rattle.engine_core.specs.EngineText.{Text}
use Rattle.exchange_engines.specs.ReplayText.{IsReplayText}
use Rattle.joint_laws.specs.ListText.{list_text, CanBeListed, SendsOctets, MomentsAreShort, ReplayGives}

-- These events can be written as a list, and they have these entries for blocks that are apart.
pub record CanBeWritten {A : Type 0} (blocks : List (Block A)) (events : List (Event A)) (entries : List (List (Entry A))) : Type 0 where
  pub are_apart : AreApart blocks
  pub can_be_listed : CanBeListed events
  pub at_most : length events < 1000000
  pub are_entries : AreEntries blocks events entries

-- a list that is written is replayed as its events are: by the lines of the entries that they have
abbrev pub WrittenListsReplay : Type 0 → Type 0
WrittenListsReplay A =
    (blocks : List (Block A)) (events : List (Event A)) (entries : List (List (Entry A))) (t : Text (Event A) ListCause) →
    CanBeWritten blocks events entries → IsReplayText blocks t → ReplayGives t (list_text events) entries

-- A publisher's whole run, which its own block hears without a wrap and in time, can be written as a list.
pub record CanBeSent {A B : Type 0} (p : Setup A) (block : Block B) (calls : List Call) (answers : List (Option (Frame A))) : Type 0 where
  pub is_run : IsWholeRun p block calls answers
  pub moments_are_short : MomentsAreShort calls
  pub are_octets : SendsOctets (sent_from 0 calls answers)
  pub at_most : length (sent_from 0 calls answers) < 1000000

-- The list of a publisher's whole run is replayed with its own block by one line for each frame: an action for a change's,
-- a renewal for a poll's.
abbrev pub PublishedListsReplay : Type 0 → Type 0 → Type 0
PublishedListsReplay A B =
    (p : Setup A) (block : Block B) (calls : List Call) (answers : List (Option (Frame A))) (t : Text (Event B) ListCause) →
    CanBeSent p block calls answers → IsReplayText (block ∷ []) t →
    ReplayGives t (list_text (published_events {B = B} (sent_from 0 calls answers))) (one_entry_each (sent_from 0 calls answers))

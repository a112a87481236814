-- What the definitions of the publisher and of the subscriber say together.
use Rattle.std.specs.Prelude.{◌≡◌, ℕ, ◌+◌, ◌≤◌, ◌↔◌, Option, Some, List, [], ◌∷◌, length, slice_get, Contains}
use Rattle.list_core.specs.declared.event.Event.{Event}
use Rattle.list_core.specs.declared.event.EventKind.TheVariants as kinds
use Rattle.frame_core.specs.declared.frame.Frame.{Frame}
use Rattle.mms_data.specs.Data.{Data}
use Rattle.mms_data.specs.declared.time.UtcTime.{UtcTime}
use Rattle.publish_core.specs.Frames.{Change, Setup, change}
use Rattle.publish_core.specs.Run.{Call, NoWrap, PublishesOctets}
use Rattle.block_core.specs.declared.block.Block.{Block}
use Rattle.subscribe_core.specs.declared.entry.Entry.{Entry}
use Rattle.subscribe_core.specs.declared.entry.Entry.TheVariants as says
use Rattle.subscribe_core.specs.declared.registers.Facts.{Facts}
use Rattle.subscribe_core.specs.Entries.{AreEntries, AreEntriesAt}
use Rattle.subscribe_core.specs.Epoch.{IsLastStart, Trace}
use Rattle.subscribe_core.specs.Laws.{IsIn}
use Rattle.subscribe_core.specs.EventsRead.{AreRead, EventRead}
use Rattle.subscribe_core.specs.Sight.{trace_of_block}
use Rattle.subscribe_core.specs.Apart.{AreApart}
use Rattle.joint_laws.specs.PublishedList.{IsWholeRun, one_entry_each, published_events, sent_from}
use Rattle.joint_laws.specs.Stems.{AreAccepted, HasSizes, ChangeComesInTime, IsOfRun, IsPublishedUnder, StemsFromRun}

-- one thing is published under a status number
abbrev pub PublishedIsOne : Type 0 → Type 0
PublishedIsOne A =
    (p : Setup A) (calls : List Call) (number : ℕ) (x y : Change) → IsPublishedUnder p calls number x → IsPublishedUnder p calls number y → x ≡ y

-- A block among those that are subscribed to, and a position from which on, if an epoch starts there, its good frames stem from one
-- publisher's run without a wrap.
pub record EpochOfRun (A B : Type 0) : Type 0 where
  -- the blocks, no two of one name, and the one whose epoch it is
  pub blocks : List (Block B)
  pub apart : AreApart blocks
  pub position : ℕ
  pub block : Block B
  pub here : slice_get blocks position ≡ Some block
  -- the events, and what is read in them
  pub events : List (Event B)
  pub readings : List EventRead
  pub are_read : AreRead events readings
  -- the position at which the epoch starts, and the run
  pub start : ℕ
  pub publisher : Setup A
  pub calls : List Call
  pub stems : StemsFromRun block events readings start publisher calls

-- what the block of the epoch sees of the events
abbrev pub trace_of_epoch : {A B : Type 0} → EpochOfRun A B → Trace
trace_of_epoch e = trace_of_block e.block e.readings

-- each action of such an epoch carries the time of change and the members that were published under its status number
abbrev pub ActionsCarryWhatWasPublished : Type 0 → Type 0 → Type 0
ActionsCarryWhatWasPublished A B =
    (e : EpochOfRun A B) (i : ℕ) (entries : List (Entry B)) (number sequence : ℕ) (t : UtcTime) (members : List Data) →
    IsLastStart (trace_of_epoch e) i e.start → AreEntriesAt e.blocks e.events i entries →
    Contains entries (says.Act e.position number sequence t members) →
    IsPublishedUnder e.publisher e.calls number (change t members)

-- at event i of the epoch its block acts on change c: an action of it has the status number first + c
pub record ActsOnChange {A B : Type 0} (e : EpochOfRun A B) (c i : ℕ) : Type 0 where
  pub epoch : IsLastStart (trace_of_epoch e) i e.start
  pub entries : List (Entry B)
  pub are_entries : AreEntriesAt e.blocks e.events i entries
  pub sequence : ℕ
  pub t : UtcTime
  pub members : List Data
  pub has : Contains entries (says.Act e.position (e.publisher.first + c) sequence t members)

-- The changes acted on are those of which a good frame comes before any of a later change. They are acted on in their order,
-- and each of them at one event.
pub record ActsInOrder {A B : Type 0} (e : EpochOfRun A B) : Type 0 where
  pub those : (c : ℕ) → ((i : ℕ) × ActsOnChange e c i) ↔ ChangeComesInTime (trace_of_epoch e) e.start e.publisher.first c
  pub in_order : (c d i j : ℕ) → ActsOnChange e c i → ActsOnChange e d j → i ≤ j → c ≤ d
  pub once : (c i j : ℕ) → ActsOnChange e c i → ActsOnChange e c j → i ≡ j

-- so it is in every such epoch
abbrev pub ChangesActedOn : Type 0 → Type 0 → Type 0
ChangesActedOn A B = (e : EpochOfRun A B) → ActsInOrder e

-- the octets that a publisher gives, whose changes were accepted, are of its run
abbrev pub WhatIsPublishedIsOfTheRun : Type 0 → Type 0
WhatIsPublishedIsOfTheRun A =
    (p : Setup A) (calls : List Call) (i : ℕ) (octets : List ℕ) → HasSizes p → AreAccepted p calls → PublishesOctets p calls i octets → IsOfRun p calls octets

-- So an epoch stems from the run where each of its good frames is octets that a call of the run publishes, whatever of them
-- was lost, repeated or reordered.
abbrev pub EpochsOfWhatIsPublishedStem : Type 0 → Type 0 → Type 0
EpochsOfWhatIsPublishedStem A B =
    (block : Block B) (events : List (Event B)) (readings : List EventRead) (s : ℕ) (p : Setup A) (calls : List Call) →
    1 ≤ p.first → NoWrap p calls → HasSizes p → AreAccepted p calls →
    ((i : ℕ) (f : Facts) (e : Event B) (octets : List ℕ) → IsIn (trace_of_block block readings) s i f → slice_get events i ≡ Some e →
    e.kind ≡ kinds.Frame octets → (j : ℕ) × PublishesOctets p calls j octets) →
    StemsFromRun block events readings s p calls

-- Of the frames of a publisher's whole run, no more than there are sequence numbers, its own block alone acts on each
-- change's, and is renewed by each poll's; there is no other entry.
abbrev pub WholeRunsReplay : Type 0 → Type 0 → Type 0
WholeRunsReplay A B =
    (p : Setup A) (block : Block B) (calls : List Call) (answers : List (Option (Frame A))) → IsWholeRun p block calls answers →
    length (sent_from 0 calls answers) ≤ 4294967295 →
    AreEntries (block ∷ []) (published_events (sent_from 0 calls answers)) (one_entry_each (sent_from 0 calls answers))

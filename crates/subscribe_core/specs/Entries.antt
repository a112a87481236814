-- The entries that a list of events has, for the blocks that are subscribed to.
use Rattle.std.specs.Prelude.{◌≡◌, ℕ, ◌+◌, ◌⊎◌, true, Some, List, [], ◌∷◌, ◌++◌, length, slice_get}
use Rattle.block_core.specs.declared.block.Block.{Block}
use Rattle.subscribe_core.specs.declared.entry.Entry.{Entry}
use Rattle.subscribe_core.specs.declared.entry.Entry.TheVariants as says
use Rattle.list_core.specs.declared.event.Event.{Event}
use Rattle.subscribe_core.specs.Epoch.{IsExpiry}
use Rattle.subscribe_core.specs.FrameEntry.{IsFrameEntry}
use Rattle.subscribe_core.specs.EventsRead.{Content, OfGoose, OfSampled, OfFault, OfClock, OfMode, EventRead, AreRead}
use Rattle.subscribe_core.specs.Sight.{trace_of_block}
use Rattle.subscribe_core.specs.Simulation.{is_switched}

-- one entry for each of the blocks of which this holds, in their order, and no other; the first block has position b
abbrev pub AreOfEach : {A : Type 0} → (Block A → Type 0) → (ℕ → Entry A) → ℕ → List (Block A) → List (Entry A) → Type 0
AreOfEach holds entry b [] entries = entries ≡ []
AreOfEach {A} holds entry b (block ∷ blocks) entries =
    (holds block × ((rest : List (Entry A)) × (entries ≡ entry b ∷ rest) × AreOfEach holds entry (b + 1) blocks rest)) ⊎
    (¬ holds block × AreOfEach holds entry (b + 1) blocks entries)

-- i is an expiry of the block
abbrev pub ExpiresAt : {A : Type 0} → List EventRead → ℕ → Block A → Type 0
ExpiresAt readings i block = IsExpiry (trace_of_block block readings) i

-- the block goes over to simulated frames at i, or back to real ones
abbrev pub SwitchesAt : {A : Type 0} → List EventRead → ℕ → Block A → Type 0
SwitchesAt readings i block = is_switched block readings i ≡ true

-- what is said of what is read at i, after the expiries and the switches
abbrev pub AreOfContent : {A : Type 0} → List (Block A) → List EventRead → ℕ → Content → List (Entry A) → Type 0
AreOfContent {A} blocks readings i (OfGoose f) entries =
    (entry : Entry A) × IsFrameEntry blocks readings i f entry × (entries ≡ entry ∷ [])
AreOfContent blocks readings i OfSampled entries = entries ≡ says.Sampled ∷ []
AreOfContent blocks readings i (OfFault fault) entries = entries ≡ says.Faulty fault ∷ []
AreOfContent blocks readings i OfClock entries = entries ≡ []
AreOfContent blocks readings i (OfMode on) entries = entries ≡ []

-- the entries at i of events as they are read: the expiries, then the switches, then what is said of the event
pub record AreReadEntriesAt {A : Type 0} (blocks : List (Block A)) (readings : List EventRead) (i : ℕ) (entries : List (Entry A)) : Type 0 where
  pub event : EventRead
  pub at : slice_get readings i ≡ Some event
  pub expired : List (Entry A)
  pub switched : List (Entry A)
  pub said : List (Entry A)
  pub are_expired : AreOfEach (ExpiresAt readings i) says.Expired 0 blocks expired
  pub are_switched : AreOfEach (SwitchesAt readings i) says.Switched 0 blocks switched
  pub are_said : AreOfContent blocks readings i event.content said
  pub whole : entries ≡ expired ++ (switched ++ said)

-- the entries of event i of a list of frame octets, clock moments and mode events
abbrev pub AreEntriesAt : {A : Type 0} → List (Block A) → List (Event A) → ℕ → List (Entry A) → Type 0
AreEntriesAt blocks events i entries =
    (readings : List EventRead) × AreRead events readings × AreReadEntriesAt blocks readings i entries

-- the entries of a whole list of events, event by event
pub record AreEntries {A : Type 0} (blocks : List (Block A)) (events : List (Event A)) (entries : List (List (Entry A))) : Type 0 where
  pub sizes : length entries ≡ length events
  pub each : (i : ℕ) (es : List (Entry A)) → slice_get entries i ≡ Some es → AreEntriesAt blocks events i es

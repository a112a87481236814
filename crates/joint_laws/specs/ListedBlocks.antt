-- A replay with the control blocks that `blocks` lists.
use Rattle.std.specs.Prelude.{◌≡◌, ◌≤◌, ◌⊎◌, ℕ, List, [], ◌∷◌, ◌++◌, codes, slice_get, Some, ⊤}
use Rattle.std.specs.Fmt.{decimal}
use Rattle.list_core.specs.declared.device.InputEnd.{InputEnd}
use Rattle.list_core.specs.declared.event.Event.{Event}
use Rattle.list_core.specs.declared.event_lines.EventLines.TheVariants.{First}
use Rattle.list_core.specs.declared.list_fault.ListCause.{ListCause}
use Rattle.list_core.specs.Cuts.{HasNo}
use Rattle.list_core.specs.EventLine.{event_rules}
use Rattle.list_core.specs.Items.{Listing, listing}
use Rattle.block_core.specs.declared.block.Block.{Block}
use Rattle.block_core.specs.BlockText.{block_in}
use Rattle.subscribe_core.specs.declared.entry.Entry.{Entry}
use Rattle.subscribe_core.specs.declared.entry.Entry.TheVariants as says
use Rattle.subscribe_core.specs.declared.entry.Reason.{Reason}
use Rattle.subscribe_core.specs.declared.entry.Reason.TheVariants.{DatSet, GoId, ConfRev, Commissioning, Simulated, Entries, StateZero, LiveZero}
use Rattle.subscribe_core.specs.Entries.{AreEntries}
use Rattle.subscribe_core.specs.Apart.{AreApart, HasNameOf}
use Rattle.engine_core.specs.EngineText.{Text, last_text}
use Rattle.engine_core.specs.computed.WholeText.{told, whole_text}
use Rattle.exchange_engines.specs.EntryText.{entry_lines}
use Rattle.exchange_engines.specs.ReplayText.{IsReplayText, events_of}
use Rattle.inventory_engine.specs.Sightings.{Key, Sighting, sightings_in}
use Rattle.inventory_engine.specs.BlocksText.{IsBlocksText}
use Rattle.inventory_engine.specs.Laws.{IsFirst}

-- the lines of the entries of events, each with the number of its event's line
abbrev pub lines_at : {A : Type 0} → List (ℕ × Event A) → List (List (Entry A)) → List ℕ
lines_at [] entries = []
lines_at (e ∷ es) [] = []
lines_at (e ∷ es) (now ∷ rest) = entry_lines e.0 now ++ lines_at es rest

-- a text of a list, which refuses no item, is the lines of these entries and the line of the list's fault, if it has one
pub record WritesEntries {A : Type 0} (t : Text (Event A) ListCause) (l : Listing (Event A) ListCause) (entries : List (List (Entry A))) : Type 0 where
  pub writes : whole_text t l ≡ lines_at l.items entries ++ last_text t l.stop
  pub stops : (told t l).stop ≡ l.stop

-- a replay of a list writes the lines of the entries that its events have
abbrev pub ReplaysWriteEntries : Type 0 → Type 0
ReplaysWriteEntries A =
    (blocks : List (Block A)) (entries : List (List (Entry A))) (t : Text (Event A) ListCause) (l : Listing (Event A) ListCause) →
    AreApart blocks → AreEntries blocks (events_of l.items) entries → IsReplayText blocks t → WritesEntries t l entries

-- a line of a text: it begins where the text or a line of it begins, and ends before the next LF
pub record HasLine (text line : List ℕ) : Type 0 where
  pub before : List ℕ
  pub after : List ℕ
  pub whole : text ≡ before ++ (line ++ 10 ∷ after)
  pub starts_line : (before ≡ []) ⊎ ((earlier : List ℕ) × (before ≡ earlier ++ 10 ∷ []))
  pub has_no_lf : HasNo 10 line

-- a line of the text tells this: the number of a line of a list, the word, and what is told
pub record LineTells (text word what : List ℕ) : Type 0 where
  pub number : ℕ
  pub at_most : number ≤ 1000000
  pub has_line : HasLine text (decimal number ++ word ++ what)

-- this is the BLOCK of one of the blocks
pub record IsBlockOf {A : Type 0} (blocks : List (Block A)) (what : List ℕ) : Type 0 where
  pub position : ℕ
  pub block : Block A
  pub there : slice_get blocks position ≡ Some block
  pub says : block_in what ≡ Some block

-- What each line `block` tells is the BLOCK of one of these blocks, and no line `block-changed` stands.
pub record AreListed {A : Type 0} (text : List ℕ) (blocks : List (Block A)) : Type 0 where
  pub each : (what : List ℕ) → LineTells text (codes " block ") what → IsBlockOf blocks what
  pub none_changes : (what : List ℕ) → ¬ LineTells text (codes " block-changed ") what

-- the frame is configured otherwise than its block
abbrev pub IsOfConfiguration : Reason → Type 0
IsOfConfiguration DatSet = ⊤
IsOfConfiguration GoId = ⊤
IsOfConfiguration ConfRev = ⊤
IsOfConfiguration Entries = ⊤
IsOfConfiguration Commissioning = ⊥
IsOfConfiguration Simulated = ⊥
IsOfConfiguration StateZero = ⊥
IsOfConfiguration LiveZero = ⊥

-- the entry is not that of a frame of no block, nor of one that is configured otherwise than its block
abbrev pub IsAsConfigured : {A : Type 0} → Entry A → Type 0
IsAsConfigured (says.Expired b) = ⊤
IsAsConfigured (says.Switched b) = ⊤
IsAsConfigured (says.Act b state sequence t members) = ⊤
IsAsConfigured (says.Refreshed b state sequence) = ⊤
IsAsConfigured (says.Repeated b state sequence) = ⊤
IsAsConfigured (says.Older b state sequence) = ⊤
IsAsConfigured (says.Refused b reason) = ¬ IsOfConfiguration reason
IsAsConfigured says.NotSubscribed = ⊥
IsAsConfigured says.Sampled = ⊤
IsAsConfigured (says.Faulty fault) = ⊤

-- so are all of these
abbrev pub AreAsConfigured : {A : Type 0} → List (Entry A) → Type 0
AreAsConfigured [] = ⊤
AreAsConfigured (e ∷ es) = IsAsConfigured e × AreAsConfigured es

-- These blocks are apart, the text of the list under `blocks` tells none but them and no change, and its events have these entries
-- for them.
pub record IsListedReplay {A : Type 0} (l : Listing (Event A) ListCause) (blocks : List (Block A)) (entries : List (List (Entry A))) (t : Text (Event A) ListCause) : Type 0 where
  pub are_apart : AreApart blocks
  pub is_text : IsBlocksText t
  pub are_listed : AreListed (whole_text t l) blocks
  pub are_entries : AreEntries blocks (events_of l.items) entries

-- of a list whose text under `blocks` tells these blocks and no change, each entry for these blocks is as configured
abbrev pub ListedBlocksFit : Type 0 → Type 0
ListedBlocksFit A =
    (z : InputEnd) (list : List ℕ) (blocks : List (Block A)) (entries : List (List (Entry A))) (t : Text (Event A) ListCause) →
    IsListedReplay (listing event_rules First z 0 list) blocks entries t → (i : ℕ) (es : List (Entry A)) → slice_get entries i ≡ Some es → AreAsConfigured es

-- a sighting that comes first for its key, at this position, says the block
pub record SaysFirst {A : Type 0} (seen : List Sighting) (i : ℕ) (block : Block A) : Type 0 where
  pub key : Key
  pub first : IsFirst seen key i
  pub says : block_in first.is.sighting.text ≡ Some block

-- Of a list, no two lines that come first say blocks of one name: a subscriber can have all of them.
abbrev pub ListedBlocksAreApart : Type 0 → Type 0
ListedBlocksAreApart A =
    (z : InputEnd) (list : List ℕ) (i j : ℕ) (a b : Block A) →
    SaysFirst (sightings_in (listing (event_rules {A = A}) First z 0 list).items) i a → SaysFirst (sightings_in (listing (event_rules {A = A}) First z 0 list).items) j b → HasNameOf a b → i ≡ j

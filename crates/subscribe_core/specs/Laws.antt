-- What follows from the definitions, for every list of events.
use Rattle.std.specs.Prelude.{◌≡◌, ℕ, ◌<◌, ◌≤◌, ◌↔◌, ◌==◌, true, Some, List, [], ◌∷◌, ◌++◌, map, slice_get, flat_map, Contains, if◌then◌else◌}
use Rattle.block_core.specs.declared.block.Block.{Block}
use Rattle.subscribe_core.specs.declared.entry.Entry.{Entry}
use Rattle.subscribe_core.specs.declared.entry.Entry.TheVariants as says
use Rattle.subscribe_core.specs.declared.registers.Facts.{Facts}
use Rattle.list_core.specs.declared.event.Event.{Event}
use Rattle.mms_data.specs.Data.{Data}
use Rattle.mms_data.specs.declared.time.UtcTime.{UtcTime}
use Rattle.subscribe_core.specs.declared.registers.Verdict.TheVariants.{Act}
use Rattle.subscribe_core.specs.Entries.{AreReadEntriesAt, AreEntriesAt, AreEntries}
use Rattle.subscribe_core.specs.FrameEntry.{entry_of}
use Rattle.subscribe_core.specs.Epoch.{Trace, IsLastStart, Acts}
use Rattle.subscribe_core.specs.EventsRead.{FrameRead, OfGoose, EventRead}
use Rattle.subscribe_core.specs.Sight.{trace_of_block}
use Rattle.subscribe_core.specs.computed.Content.{reading_of}
use Rattle.subscribe_core.specs.Simulation.{TakesSimulated, takes_simulated}
use Rattle.subscribe_core.specs.Apart.{AreApart}
use Rattle.subscribe_core.specs.State.{fresh_state}
use Rattle.subscribe_core.specs.computed.Steps.{run_events}

-- i is a good position of the epoch that starts at s, and f are its facts
pub record IsIn (t : Trace) (s i : ℕ) (f : Facts) : Type 0 where
  pub good : t.good i ≡ Some f
  pub epoch : IsLastStart t i s

-- within one epoch the numbers acted on strictly rise
abbrev pub NumbersRise : Trace → Type 0
NumbersRise t =
    (s i j : ℕ) (f g : Facts) → IsIn t s i f → IsIn t s j g → i < j → Acts t i → Acts t j → f.state < g.state

-- a is the newest position up to i that was acted on, in the epoch of s
pub record IsNewest (t : Trace) (s i a : ℕ) (f : Facts) : Type 0 where
  pub within : a ≤ i
  pub in_epoch : IsIn t s a f
  pub acts : Acts t a
  pub newest : (j : ℕ) → a < j → j ≤ i → ¬ Acts t j

-- each good frame's number is at most the newest one acted on
abbrev pub NumbersAreBelow : Trace → Type 0
NumbersAreBelow t =
    (s i : ℕ) (f : Facts) → IsIn t s i f → (a : ℕ) × (g : Facts) × IsNewest t s i a g × (f.state ≤ g.state)

-- the number is acted on in the epoch of s
pub record IsActedOn (t : Trace) (s number : ℕ) : Type 0 where
  pub position : ℕ
  pub facts : Facts
  pub good : IsIn t s position facts
  pub acts : Acts t position
  pub numbered : facts.state ≡ number

-- a good frame of the number comes in the epoch of s before any good frame of a greater one
pub record ComesInTime (t : Trace) (s number : ℕ) : Type 0 where
  pub position : ℕ
  pub facts : Facts
  pub good : IsIn t s position facts
  pub numbered : facts.state ≡ number
  pub before : (j : ℕ) (g : Facts) → IsIn t s j g → j < position → g.state ≤ number

-- a number is acted on exactly where it comes in time
abbrev pub ActedWhereInTime : Trace → Type 0
ActedWhereInTime t = (s number : ℕ) → IsActedOn t s number ↔ ComesInTime t s number

-- a block takes simulated frames exactly where the test says so
abbrev pub SimulatedAreTaken : Type 0 → Type 0
SimulatedAreTaken A =
    (block : Block A) (readings : List EventRead) (i : ℕ) → (takes_simulated block readings i ≡ true) ↔ TakesSimulated block readings i

-- the good frames of one epoch are all simulated or all real
abbrev pub OneKind : Type 0 → Type 0
OneKind A =
    (block : Block A) (readings : List EventRead) (s i j : ℕ) (f g : Facts) (d e : EventRead) (x y : FrameRead) →
    IsIn (trace_of_block block readings) s i f → IsIn (trace_of_block block readings) s j g →
    slice_get readings i ≡ Some d → d.content ≡ OfGoose x → slice_get readings j ≡ Some e → e.content ≡ OfGoose y →
    x.pdu.simulation ≡ y.pdu.simulation

-- the entry, if it is of block b, with the block's position read as 0
abbrev pub own_of : {A : Type 0} → ℕ → Entry A → List (Entry A)
own_of b (says.Expired c) = if c == b then says.Expired 0 ∷ [] else []
own_of b (says.Switched c) = if c == b then says.Switched 0 ∷ [] else []
own_of b (says.Act c st sq t m) = if c == b then says.Act 0 st sq t m ∷ [] else []
own_of b (says.Refreshed c st sq) = if c == b then says.Refreshed 0 st sq ∷ [] else []
own_of b (says.Repeated c st sq) = if c == b then says.Repeated 0 st sq ∷ [] else []
own_of b (says.Older c st sq) = if c == b then says.Older 0 st sq ∷ [] else []
own_of b (says.Refused c r) = if c == b then says.Refused 0 r ∷ [] else []
own_of b says.NotSubscribed = []
own_of b says.Sampled = []
own_of b (says.Faulty f) = []

-- the entries of block b, with the block's position read as 0
abbrev pub own : {A : Type 0} → ℕ → List (Entry A) → List (Entry A)
own b es = flat_map (own_of b) es

-- the entries of a block are those of a subscriber of this block alone
abbrev pub BlocksAreAlone : Type 0 → Type 0
BlocksAreAlone A =
    (blocks : List (Block A)) (events : List (Event A)) (b : ℕ) (block : Block A) (i : ℕ) (es alone : List (Entry A)) →
    AreApart blocks → slice_get blocks b ≡ Some block → AreEntriesAt blocks events i es →
    AreEntriesAt (block ∷ []) events i alone → own b es ≡ own 0 alone

-- the entries of an event are determined
abbrev pub EntriesAreOne : Type 0 → Type 0
EntriesAreOne A =
    (blocks : List (Block A)) (events : List (Event A)) (i : ℕ) (es fs : List (Entry A)) →
    AreApart blocks → AreEntriesAt blocks events i es → AreEntriesAt blocks events i fs → es ≡ fs

-- the entries of an event don't depend on later events
abbrev pub EntriesStay : Type 0 → Type 0
EntriesStay A =
    (blocks : List (Block A)) (events later : List (Event A)) (i : ℕ) (es : List (Entry A)) →
    AreEntriesAt blocks events i es → AreEntriesAt blocks (events ++ later) i es

-- every list of events has entries, those of a run of steps
abbrev pub EntriesExist : Type 0 → Type 0
EntriesExist A =
    (blocks : List (Block A)) (events : List (Event A)) → AreEntries blocks events (run_events (fresh_state blocks) (map reading_of events))

-- block b acts on event i, which is a frame of GOOSE, and this entry says so with the frame's own numbers, time and members
pub record IsActOn {A : Type 0} (blocks : List (Block A)) (readings : List EventRead) (i b : ℕ) (entry : Entry A) : Type 0 where
  pub block : Block A
  pub at : slice_get blocks b ≡ Some block
  pub event : EventRead
  pub read : slice_get readings i ≡ Some event
  pub frame : FrameRead
  pub goose : event.content ≡ OfGoose frame
  pub acts : Acts (trace_of_block block readings) i
  pub told : entry ≡ entry_of b frame Act

-- the actions among the entries of an event are exactly those of the blocks that act on it: of which its frame is a good one,
-- with a status number above those of all good ones before it in their epoch
abbrev pub ActsAreTold : Type 0 → Type 0
ActsAreTold A =
    (blocks : List (Block A)) (readings : List EventRead) (i : ℕ) (es : List (Entry A)) (b st sq : ℕ) (t : UtcTime) (members : List Data) →
    AreApart blocks → AreReadEntriesAt blocks readings i es →
    Contains es (says.Act b st sq t members) ↔ IsActOn blocks readings i b (says.Act b st sq t members)

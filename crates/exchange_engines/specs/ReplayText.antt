-- The text of `replay`: the entries that a whole list of events has for some control blocks, event by event.
use Rattle.std.specs.Prelude.{◌≡◌, ◌⊎◌, ℕ, Bool, List, [], ◌∷◌, ◌++◌, length, map, true, false, Option, Some, None, option_map, Result, Ok, codes}
use Rattle.std.specs.Fmt.{decimal}
use Rattle.list_core.specs.declared.device.InputEnd.{InputEnd}
use Rattle.list_core.specs.declared.device.InputEnd.TheVariants.{Open}
use Rattle.list_core.specs.declared.event.Event.{Event}
use Rattle.list_core.specs.declared.event.EventKind.TheVariants as kinds
use Rattle.list_core.specs.declared.event_lines.EventLines.TheVariants.{First}
use Rattle.list_core.specs.declared.line_rules.ItemFault.{ItemFault}
use Rattle.list_core.specs.declared.list_fault.ListCause.{ListCause}
use Rattle.list_core.specs.EventLine.{event_rules}
use Rattle.list_core.specs.ListReader.{list_fault_of}
use Rattle.block_core.specs.declared.block.Block.{Block}
use Rattle.subscribe_core.specs.declared.entry.Entry.{Entry}
use Rattle.subscribe_core.specs.Changes.{changes}
use Rattle.subscribe_core.specs.Entries.{AreEntriesAt}
use Rattle.subscribe_core.specs.Apart.{AreApart, IsFirstTwice}
use Rattle.engine_core.specs.declared.ending.Ending.{Ending}
use Rattle.engine_core.specs.declared.ending.Ending.TheVariants.{Done, Findings, InputFault, ReadFault, WriteFault, Memory}
use Rattle.engine_core.specs.EngineText.{Text, exactly}
use Rattle.engine_core.specs.declared.stopped.Stopped.{Stopped}
use Rattle.engine_core.specs.declared.style.Style.{Style}
use Rattle.engine_core.specs.declared.style.Style.TheVariants.{Lines}
use Rattle.engine_core.specs.EventsText.{EventAllows, FaultText, line_in, over_in}
use Rattle.engine_core.specs.Input.{Reader}
use Rattle.engine_core.specs.Run.{LeavesRefused, list_input}
use Rattle.engine_core.specs.RunOver.{IsUntouched, Leaves, OfKind, RunsOver, stopped_at}
use Rattle.exchange_engines.specs.declared.engines.replay.ReplayManner.{ReplayManner}
use Rattle.exchange_engines.specs.declared.engines.replay.ReplayStop.{ReplayStop}
use Rattle.exchange_engines.specs.declared.engines.replay.ReplayStop.TheVariants as stop
use Rattle.object_core.specs.declared.counted.Form.{Form}
use Rattle.object_core.specs.declared.counted.Form.TheVariants as forms
use Rattle.exchange_engines.specs.EntryObject.{AreEntryObjects, twice_object}
use Rattle.exchange_engines.specs.EntryText.{entry_lines}
use Rattle.text_core.specs.LineText.{list_fault_line}

-- events without the numbers of their lines
abbrev pub events_of : {A : Type 0} → List (ℕ × Event A) → List (Event A)
events_of items = map (λ e. e.1) items

-- What is written of an event after others: the lines of the entries that the list up to it has at it. No event is a finding.
pub record ReplaysEvent {A : Type 0} (blocks : List (Block A)) (before : List (ℕ × Event A)) (e : ℕ × Event A) (written : Result (List ℕ × Bool) ListCause) : Type 0 where
  pub entries : List (Entry A)
  pub are_entries : AreEntriesAt blocks (events_of before ++ e.1 ∷ []) (length (events_of before)) entries
  pub lines : written ≡ Ok (entry_lines e.0 entries, false)

-- the entries of an event after others
abbrev pub Says : Type 0 → Type 0
Says A = List (ℕ × Event A) → ℕ × Event A → List (Entry A)

-- those that the list up to it has at it, for these blocks, where these events come before all others
abbrev pub AreSaidBehind : {A : Type 0} → List (Event A) → List (Block A) → Says A → Type 0
AreSaidBehind {A} first blocks says =
    (before : List (ℕ × Event A)) (e : ℕ × Event A) → AreEntriesAt blocks ((first ++ events_of before) ++ e.1 ∷ []) (length (first ++ events_of before)) (says before e)

-- the same where none do
abbrev pub AreSaid : {A : Type 0} → List (Block A) → Says A → Type 0
AreSaid blocks says = AreSaidBehind [] blocks says

-- ---- manners

-- simulated frames are taken from the start: the mode is set on before all other events, at no later moment than any of them
abbrev pub opening : {A : Type 0} → Bool → List (Event A)
opening true = record { moment = 0; kind = kinds.Mode true } ∷ []
opening false = []

-- of the entries of an event changes alone are told, or all
abbrev pub told_of : {A : Type 0} → Bool → List (Entry A) → List (Entry A)
told_of true entries = changes entries
told_of false entries = entries

-- nothing is left out, and real frames are taken from the start
abbrev pub plainly : ReplayManner
plainly = record { simulates = false; changes_alone = false }

-- The entries that are told of events in a manner: of those that the events have, behind what the manner opens with, those that it tells.
pub record AreTold {A : Type 0} (manner : ReplayManner) (blocks : List (Block A)) (says : Says A) : Type 0 where
  pub said : Says A
  pub are_said : AreSaidBehind (opening manner.simulates) blocks said
  pub told : (before : List (ℕ × Event A)) (e : ℕ × Event A) → says before e ≡ told_of manner.changes_alone (said before e)

-- what may be written of these entries in a form: their lines, or objects of them. No event is a finding.
abbrev pub entries_in : {A : Type 0} → List (Block A) → Says A → Form → EventAllows A
entries_in blocks says forms.Text before e written = (entry_lines e.0 (says before e), false) ≡ written
entries_in blocks says (forms.Object counted) before e written = AreEntryObjects counted blocks e.0 e.1.moment (says before e) written.0 × (written.1 ≡ false)

-- What `replay` writes for these blocks: of each event the lines of its entries.
pub record IsReplayText {A : Type 0} (blocks : List (Block A)) (t : Text (Event A) ListCause) : Type 0 where
  pub first : t.first ≡ []
  pub each_item : (before : List (ℕ × Event A)) (e : ℕ × Event A) → ReplaysEvent blocks before e (t.of_item before e)
  pub last : (f : ItemFault ListCause) → t.last f ≡ list_fault_line (list_fault_of f)

-- the one line for a block given twice, at its position
abbrev pub twice_line : ℕ → List ℕ
twice_line i = codes "blocks SameBlockTwice " ++ decimal i ++ codes "\n"

-- what is left written of a block given twice: one text, unless memory is refused for it
abbrev pub LeavesTold : List ℕ → Ending → Option (List ℕ) → Option (List ℕ) → Type 0
LeavesTold text ending old new = LeavesRefused text ending old new ⊎ ((ending ≡ Memory) × (new ≡ old))

-- its line or its object in a style, by its position
abbrev pub LeavesTwiceIn : {A : Type 0} → Style → List (Block A) → ℕ → Ending → Option (List ℕ) → Option (List ℕ) → Type 0
LeavesTwiceIn style blocks position ending old new = LeavesTold (line_in style (twice_line position) (twice_object blocks position)) ending old new

-- A block is given twice, the first one at this position: what would be read is untouched, and the line or the object that says so is written in a style, unless memory is refused for it.
pub record RefusesTwice {A : Type 0} (Untouched : Type 0) (style : Style) (blocks : List (Block A)) (ending : Ending) (old new : Option (List ℕ)) : Type 0 where
  pub position : ℕ
  pub is_twice : IsFirstTwice blocks position
  pub untouched : Untouched
  pub written : LeavesTwiceIn style blocks position ending old new

-- The blocks are apart, but memory is refused for what a subscriber of them keeps, or for an entry where changes alone are told: what would be read is untouched, and nothing is written.
pub record KeepsNone {A : Type 0} (Untouched : Type 0) (manner : ReplayManner) (blocks : List (Block A)) (ending : Ending) (old new : Option (List ℕ)) : Type 0 where
  pub wants_memory : ending ≡ Memory
  pub are_apart : AreApart blocks
  pub are_some : manner.changes_alone ≡ false → blocks ≡ [] → ⊥
  pub untouched : Untouched
  pub none_written : new ≡ old

-- why a replay stops that was given a block twice, the first one at this position: for nothing, unless its line was written
abbrev pub twice_stop : {F : Type 0} → Ending → ℕ → Option (ReplayStop F)
twice_stop Done position = None
twice_stop Findings position = None
twice_stop InputFault position = Some (stop.SameBlockTwice position)
twice_stop ReadFault position = None
twice_stop WriteFault position = None
twice_stop Memory position = None

-- The blocks are apart, and what is written of their entries is left so, where the run ends by this fault of the input; for that the replay stops.
pub record Replays {A F : Type 0} (blocks : List (Block A)) (IsLeft : Option F → Type 0) (why : Option (ReplayStop F)) : Type 0 where
  pub are_apart : AreApart blocks
  pub fault : Option F
  pub by : why ≡ option_map stop.Input fault
  pub is_left : IsLeft fault

-- what a replay of these blocks leaves of what is untouched so, or of which their entries are left so; and why it stops
abbrev pub ReplaysSo : {A F : Type 0} → Type 0 → Style → ReplayManner → List (Block A) → (Option F → Type 0) → Ending → Option (ReplayStop F) → Option (List ℕ) → Option (List ℕ) → Type 0
ReplaysSo Untouched style manner blocks IsLeft ending why old new =
    ((twice : RefusesTwice Untouched style blocks ending old new) × (why ≡ twice_stop ending twice.position))
    ⊎ (KeepsNone Untouched manner blocks ending old new × (why ≡ None)) ⊎ Replays blocks IsLeft why

-- what a replay of these blocks leaves written of a list of which these octets were read, and why it stops
abbrev pub ReplayWritesTo : {A : Type 0} → List (Block A) → Ending → Option (ReplayStop (ItemFault ListCause)) → InputEnd → List ℕ → Option (List ℕ) → Option (List ℕ) → Type 0
ReplayWritesTo blocks ending why z read old new =
    ReplaysSo (IsUntouched Open z read) (Lines forms.Text) plainly blocks (λ fault. OfKind (IsReplayText blocks) (λ t. Leaves (list_input event_rules First) (exactly t) ending fault z read old new)) ending why old new

-- the same, whatever it stops for
abbrev pub ReplayWrites : {A : Type 0} → List (Block A) → Ending → InputEnd → List ℕ → Option (List ℕ) → Option (List ℕ) → Type 0
ReplayWrites blocks ending z read old new = (why : Option (ReplayStop (ItemFault ListCause))) × ReplayWritesTo blocks ending why z read old new

-- what a replay of these blocks in a manner over a reader of events leaves, and why it stops
abbrev pub ReplaysOver : {A I C F : Type 0} → Style → ReplayManner → List (Block A) → Reader I (Event A) C F → FaultText F → I → Stopped I (ReplayStop F) → Option (List ℕ) → Option (List ℕ) → Type 0
ReplaysOver style manner blocks reader last start stopped old new =
    ReplaysSo (stopped.reader ≡ start) style manner blocks
    (λ fault. OfKind (AreTold manner blocks) (λ says. RunsOver reader (over_in style (entries_in blocks says) last) start (stopped_at stopped.ending fault stopped.reader) old new)) stopped.ending stopped.fault old new

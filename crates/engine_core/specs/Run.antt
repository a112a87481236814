-- A list as an input: how far it was read for an answer, and what a run over it writes.
use Rattle.std.specs.Prelude.{◌≡◌, ◌≤◌, ◌⊎◌, ℕ, ◌+◌, List, ◌++◌, length, Option, Some, None, Ok, Err}
use Rattle.std.specs.Io.KnownBytes.{Appends}
use Rattle.list_core.specs.declared.device.InputEnd.{InputEnd}
use Rattle.list_core.specs.declared.device.InputEnd.TheVariants.{Open}
use Rattle.list_core.specs.declared.line_rules.ItemFault.{ItemFault}
use Rattle.list_core.specs.declared.line_rules.ItemFault.TheVariants as fault
use Rattle.list_core.specs.Device.{AppendsPrefix}
use Rattle.list_core.specs.Lines.{StartsLine}
use Rattle.list_core.specs.Items.{Rules, Listing, listing, put_items}
use Rattle.list_core.specs.ItemReader.{OnlyKept, line_of}
use Rattle.list_core.specs.Reader.{IsWanting}
use Rattle.list_core.specs.ReadItems.{AnswerOf, is_failed_read}
use Rattle.engine_core.specs.declared.ending.Ending.{Ending}
use Rattle.engine_core.specs.declared.ending.Ending.TheVariants.{InputFault, WriteFault}
use Rattle.engine_core.specs.EngineText.{Text, exactly}
use Rattle.engine_core.specs.Input.{Faults, Input}
use Rattle.engine_core.specs.RunOver.{Leaves, OfKind}

-- ---- how far a list was read

-- A line of what was read. The lines before it say these items; before the first of them s was settled. From its start on at
-- most 8,192 octets were read, and no whole line where the source has ended or failed: they were read for this line alone.
pub record AtLine {S X C : Type 0} (r : Rules S X C) (s : S) (z : InputEnd) (read : List ℕ) (items : List (ℕ × X)) : Type 0 where
  -- how many lines are before it, and what is settled then
  pub lines_before : ℕ
  pub settled : S
  -- the octets of the lines before it, and those from its start on
  pub earlier : List ℕ
  pub onward : List ℕ
  pub whole : read ≡ earlier ++ onward
  pub starts_line : StartsLine z earlier onward
  pub at_most : length onward ≤ 8192
  pub for_this_line : (z ≡ Open) ⊎ IsWanting onward
  -- what was read says the items, and then what is said from the line on
  pub says : listing r s z 0 read ≡ put_items items (listing r settled z lines_before onward)

-- the line has something to keep in memory
abbrev pub HasToKeep : {S X C : Type 0} {r : Rules S X C} {s : S} {read : List ℕ} {items : List (ℕ × X)} → (z : InputEnd) → AtLine r s z read items → Type 0
HasToKeep {r = r} z line = OnlyKept r line.settled z line.lines_before line.onward (Err None)

-- an answer is about this line: its item or its fault has the number of the line, and memory is wanted only where the line has something to keep
abbrev pub IsOfLine : {S X C : Type 0} {r : Rules S X C} {s : S} {read : List ℕ} {items : List (ℕ × X)} → (z : InputEnd) → AtLine r s z read items → AnswerOf X (ItemFault C) → Type 0
IsOfLine z line (Ok (Some e)) = e.0 ≡ line.lines_before + 1
IsOfLine z line (Ok None) = Unit {0}
IsOfLine z line (Err (Some f)) = line_of f ≡ line.lines_before + 1
IsOfLine z line (Err None) = HasToKeep z line

-- behind these items of a list no more was read than the line of this answer needs
pub record StandsAtLine {S X C : Type 0} (r : Rules S X C) (s : S) (z : InputEnd) (read : List ℕ) (items : List (ℕ × X)) (answer : AnswerOf X (ItemFault C)) : Type 0 where
  pub line : AtLine r s z read items
  pub is_of : IsOfLine z line answer

-- a refused item is a fault of its line, and a list has failed where its source has
abbrev pub list_faults : {C : Type 0} → Faults C (ItemFault C)
list_faults = record { refused = fault.Line; failed = is_failed_read }

-- a list by these rules, where this is settled before its first line
abbrev pub list_input : {S X C : Type 0} → Rules S X C → S → Input X C (ItemFault C)
list_input r s = record { says = λ z read. listing r s z 0 read; stands = λ z read items answer. StandsAtLine r s z read items answer; faults = list_faults }

-- ---- a run over a list

-- what a run of an open reader leaves written of the list that was read, with the ending that the reader tells then
abbrev pub Writes : {S X C : Type 0} → Rules S X C → S → Text X C → Ending → InputEnd → List ℕ → Option (List ℕ) → Option (List ℕ) → Type 0
Writes {C = C} r s t ending z read old new = (why : Option (ItemFault C)) × Leaves (list_input r s) (exactly t) ending why z read old new

-- a run writes a text of this kind
abbrev pub WritesSome : {S X C : Type 0} → (Text X C → Type 0) → Rules S X C → S → Ending → InputEnd → List ℕ → Option (List ℕ) → Option (List ℕ) → Type 0
WritesSome Is r s ending z read old new = OfKind Is (λ t. Writes r s t ending z read old new)

-- a run that is refused before it reads: its one text was written, or the writer failed at a prefix of it
abbrev pub LeavesRefused : List ℕ → Ending → Option (List ℕ) → Option (List ℕ) → Type 0
LeavesRefused text ending old new = ((ending ≡ InputFault) × Appends old new text) ⊎ ((ending ≡ WriteFault) × AppendsPrefix old new text)

-- What the answers of a reader of items say of its text.
use Rattle.std.specs.Prelude.{◌≡◌, ◌⊎◌, ℕ, ◌+◌, ◌-◌, ◌<◌, ◌≤◌, List, [], ◌++◌, length, take, true, Option, Some, None, Ok, Err}
use Rattle.std.specs.Io.KnownBytes.{Consumes}
use Rattle.list_core.specs.declared.device.InputEnd.{InputEnd}
use Rattle.list_core.specs.declared.line_rules.ItemFault.{ItemFault}
use Rattle.list_core.specs.declared.line_rules.ItemFault.TheVariants as fault
use Rattle.list_core.specs.declared.item_reader.ItemReader.{ItemReader}
use Rattle.list_core.specs.Device.{GivesOctets, OnlyOpen}
use Rattle.list_core.specs.FirstLine.{IsFront}
use Rattle.list_core.specs.Lines.{finished, faulty, StartsLine, WhateverComes, without_cr}
use Rattle.list_core.specs.Items.{Rules, Listing, put_item, stops, listing}
use Rattle.list_core.specs.ReadItems.{AnswerOf}
use Rattle.list_core.specs.Reader.{IsWanting, Stream, stream}

-- a text that is being read: what the source has left and how it ends, the octets that are held and not answered, the count of lines taken before, and what they settled
pub record ReaderState (S : Type 0) : Type 0 where
  pub left : Option (List ℕ)
  pub ending : InputEnd
  pub held : List ℕ
  pub taken : ℕ
  pub settled : S

-- a text whose lines settled s
abbrev pub reader_state : {S : Type 0} → Stream → S → ReaderState S
reader_state t s = record { left = t.left; ending = t.ending; held = t.held; taken = t.taken; settled = s }

-- what a reader of items stands for
abbrev pub item_state : {R G : Type 0} → (R → Option (List ℕ)) → (R → InputEnd) → ItemReader R G → ReaderState G
item_state left ending r = reader_state (stream left ending r.lines) r.rules

-- what a reader in this state lists: what the octets that it holds say, with these behind them
abbrev pub listed : {S X C : Type 0} → Rules S X C → ReaderState S → InputEnd → List ℕ → Listing X C
listed r s z octets = listing r s.settled z s.taken (s.held ++ octets)

-- two states of a reader list the same, whatever still comes after the ending that the second one tells
abbrev pub ListsAs : {S X C : Type 0} → Rules S X C → ReaderState S → ReaderState S → Type 0
ListsAs r old new = WhateverComes new.ending (λ z more. listed r old z more ≡ listed r new z more)

-- a reader that holds these octets too, which it was given
abbrev pub with_given : {S : Type 0} → ReaderState S → List ℕ → ReaderState S
with_given s given = record { left = s.left; ending = s.ending; held = s.held ++ given; taken = s.taken; settled = s.settled }

-- a reader at the start of a line: what is settled before it, how many lines were taken, and the octets from there on
abbrev pub at_line : {S : Type 0} → ReaderState S → S → ℕ → List ℕ → ReaderState S
at_line s settled taken rest = record { left = s.left; ending = s.ending; held = rest; taken = taken; settled = settled }

-- the number of the line last answered or refused, 0 before the first
abbrev pub item_number : {R G : Type 0} → ItemReader R G → ℕ
item_number r = r.number

-- an answer of a reader of items: an item with the number of its line, the end, a fault, or want of memory
abbrev pub Answer : Type 0 → Type 0 → Type 0
Answer X C = AnswerOf X (ItemFault C)

-- the line of a fault
abbrev pub line_of : {C : Type 0} → ItemFault C → ℕ
line_of (fault.Lines f) = f.line
line_of (fault.Line n why) = n

-- the number of the line last answered or refused, after an answer
abbrev pub item_number_told : {X C : Type 0} → Answer X C → ℕ → ℕ
item_number_told (Ok None) n = n
item_number_told (Ok (Some e)) n = e.0
item_number_told (Err (Some f)) n = line_of f
item_number_told (Err None) n = n

-- what an answer says of the text before it and the text after it: an item is taken off, the end, a fault and want of memory stay
abbrev pub Tells : {X C : Type 0} → Answer X C → Listing X C → Listing X C → Type 0
Tells (Ok (Some e)) whole rest = whole ≡ put_item e rest
Tells (Ok None) whole rest = (whole ≡ stops finished) × (rest ≡ whole)
Tells (Err (Some f)) whole rest = (whole ≡ stops (faulty f)) × (rest ≡ whole)
Tells (Err None) whole rest = rest ≡ whole

-- the count of lines taken: up to the line of an item, up to the line before a fault
abbrev pub CountsTo : {X C : Type 0} → Answer X C → ℕ → ℕ → Type 0
CountsTo (Ok (Some e)) old new = (old < new) × (e.0 ≡ new) × (new ≤ 1000000)
CountsTo (Ok None) old new = old ≤ new
CountsTo (Err (Some f)) old new = (old ≤ new) × (line_of f ≡ new + 1)
CountsTo (Err None) old new = old ≤ new

-- the octets that a source gave for an answer; which others are left may be no longer told where a fault is answered
abbrev pub GivesFor : {X C : Type 0} → Answer X C → Option (List ℕ) → Option (List ℕ) → List ℕ → Type 0
GivesFor (Ok o) old new given = Consumes old new given
GivesFor (Err (Some f)) old new given = GivesOctets old new given
GivesFor (Err None) old new given = Consumes old new given

-- how many lines stand before the answered one, of those that were taken
abbrev pub lines_before : {X C : Type 0} → Answer X C → ℕ → ℕ
lines_before (Ok (Some e)) taken = taken - 1
lines_before (Ok None) taken = taken
lines_before (Err f) taken = taken

-- the octets from the start of the answered line on: a whole line is taken off their front, or none
abbrev pub TakesOff : {X C : Type 0} → Answer X C → InputEnd → List ℕ → List ℕ → Type 0
TakesOff (Ok (Some e)) z rest held = (line : List ℕ) × (rest ≡ line ++ held) × StartsLine z line held
TakesOff (Ok None) z rest held = held ≡ rest
TakesOff (Err f) z rest held = held ≡ rest

-- of these octets the lines in front were passed over, and what follows them is wanting
abbrev pub WantsBehind : List ℕ → List ℕ → Type 0
WantsBehind octets skipped = (lines rest more : List ℕ) × (octets ≡ lines ++ rest) × IsWanting rest × (skipped ≡ lines ++ more)

-- The source was asked for octets only once the whole lines that were held were passed over and what followed was wanting: of what was held at first; and of what was held in the end, where the last read gave none and told another ending.
abbrev pub OnlySkipped : Option (List ℕ) → InputEnd → List ℕ → List ℕ → List ℕ → Option (List ℕ) → InputEnd → Type 0
OnlySkipped old z held given skipped new w = ((given ≡ []) × (new ≡ old) × (w ≡ z))
    ⊎ (WantsBehind held skipped × ((w ≡ z) ⊎ WantsBehind (held ++ given) skipped))

-- memory is wanted only where the first line has something to keep
abbrev pub OnlyKept : {S X C : Type 0} → Rules S X C → S → InputEnd → ℕ → List ℕ → Answer X C → Type 0
OnlyKept r s z n rest (Ok o) = Unit {0}
OnlyKept r s z n rest (Err (Some f)) = Unit {0}
OnlyKept r s z n rest (Err None) = (size : ℕ) × IsFront z n rest (Ok (Some size)) × (r.keeps s (without_cr (take size rest)) ≡ true)

-- Octets that the source gave for an answer: while it was open, and only once the lines before the answered one were passed over.
pub record IsGiven {S X C : Type 0} (old : ReaderState S) (answer : Answer X C) (new : ReaderState S) (given skipped : List ℕ) : Type 0 where
  pub took : GivesFor answer old.left new.left given
  pub only_open : OnlyOpen old.ending given new.ending
  pub asked : OnlySkipped old.left old.ending old.held given skipped new.left new.ending

-- What was held and what was given is whole lines that were passed over, and the rest, which is short. The answer takes its line off that rest.
pub record CutsLines {S X C : Type 0} (old : ReaderState S) (answer : Answer X C) (new : ReaderState S) (given skipped rest : List ℕ) : Type 0 where
  pub off : old.held ++ given ≡ skipped ++ rest
  pub starts : StartsLine new.ending skipped rest
  pub bounded : length rest ≤ 8192
  pub takes_off : TakesOff answer new.ending rest new.held
  pub counted : CountsTo answer old.taken new.taken

-- An answer takes its line, and those without items before it, off the front of the text. The end, a fault and want of memory stay.
pub record AnswersItem {S X C : Type 0} (r : Rules S X C) (old : ReaderState S) (answer : Answer X C) (new : ReaderState S) : Type 0 where
  -- the octets that were read, those before the answered line, and those from its start on
  pub given : List ℕ
  pub skipped : List ℕ
  pub rest : List ℕ
  pub source : IsGiven old answer new given skipped
  pub lines : CutsLines old answer new given skipped rest
  -- what is settled before the line
  pub settled : S
  pub kept : OnlyKept r settled new.ending (lines_before answer new.taken) rest answer
  -- whatever still comes, the octets before the line have no item
  pub skips : ListsAs r (with_given old given) (at_line new settled (lines_before answer new.taken) rest)
  -- whatever still comes, the answer is what the text lists first
  pub reads : WhateverComes new.ending (λ z more. Tells answer (listed r (with_given old given) z more) (listed r new z more))

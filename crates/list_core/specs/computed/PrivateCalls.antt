-- What private calls promise of lines and readers.
use Rattle.std.specs.Prelude.{◌≡◌, ℕ, ◌+◌, List, Option, Result, Ok, Err, slice_range, Some, None, ◌≤◌, ◌++◌}
use Rattle.list_core.specs.declared.list_fault.ListFault.{ListFault}
use Rattle.list_core.specs.FirstLine.{IsFront}
use Rattle.list_core.specs.Reader.{Stream}
use Rattle.std.specs.Io.KnownBytes.{Consumes}
use Rattle.list_core.specs.declared.item_reader.Tried.{Tried}
use Rattle.list_core.specs.declared.item_reader.Tried.TheVariants as tried
use Rattle.list_core.specs.Device.{OnlyOpen}
use Rattle.list_core.specs.Lines.{StartsLine, WhateverComes}
use Rattle.list_core.specs.Items.{Rules, put_items}
use Rattle.list_core.specs.ReadItems.{told_as}
use Rattle.list_core.specs.ItemReader.{ReaderState, listed, ListsAs, with_given, item_number_told, OnlySkipped, AnswersItem}

-- what stands first in s: a line of so many octets, the end, or a fault in the next line
abbrev pub StandsFirst : Stream → Result (Option ℕ) ListFault → Type 0
StandsFirst s (Ok x) = IsFront s.ending s.taken s.held (Ok x)
StandsFirst s (Err f) = (f.line ≡ s.taken + 1) × IsFront s.ending s.taken s.held (Err f.cause)

-- the number of the line last answered or refused, after it was looked at what stands first: a fault is told with its line, and nothing else is answered yet
abbrev pub number_after : {T : Type 0} → ℕ → Result T ListFault → ℕ
number_after n (Ok x) = n
number_after n (Err f) = f.line

-- the line that lies in a buffer at these places
abbrev pub line_at : List ℕ → Result (Option (ℕ × ℕ)) ListFault → Result (Option (List ℕ)) ListFault
line_at buffer (Ok None) = Ok None
line_at buffer (Ok (Some p)) = Ok (Some (slice_range buffer p.0 p.1))
line_at buffer (Err f) = Err f

-- lines without items were taken off
pub record SkipsLines {S X C : Type 0} (r : Rules S X C) (old new : ReaderState S) : Type 0 where
  pub given : List ℕ
  pub took : Consumes old.left new.left given
  pub only_open : OnlyOpen old.ending given new.ending
  pub counted : old.taken ≤ new.taken
  pub skipped : List ℕ
  pub off : old.held ++ given ≡ skipped ++ new.held
  pub asked : OnlySkipped old.left old.ending old.held given skipped new.left new.ending
  pub starts : StartsLine new.ending skipped new.held
  pub reads : ListsAs r (with_given old given) new

-- several answers took these items off, with their lines
pub record TakesItems {S X C : Type 0} (r : Rules S X C) (old : ReaderState S) (items : List (ℕ × X)) (new : ReaderState S) : Type 0 where
  pub given : List ℕ
  pub took : Consumes old.left new.left given
  pub only_open : OnlyOpen old.ending given new.ending
  pub counted : old.taken ≤ new.taken
  pub lines : List ℕ
  pub off : old.held ++ given ≡ lines ++ new.held
  pub starts : StartsLine new.ending lines new.held
  pub reads : WhateverComes new.ending (λ z more. listed r (with_given old given) z more ≡ put_items items (listed r new z more))

-- what one line gives: nothing, and then it was taken off, or an answer
abbrev pub Tries : {S X C : Type 0} → Rules S X C → ReaderState S → ℕ → Tried X C → ReaderState S → ℕ → Type 0
Tries r old m tried.Skipped new n = SkipsLines r old new × (new.taken ≡ old.taken + 1) × (new.taken ≤ 1000000) × (n ≡ m)
Tries r old m (tried.Answered a) new n = AnswersItem r old (told_as n a) new × (n ≡ item_number_told (told_as n a) m)

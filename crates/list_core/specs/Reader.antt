-- What a reader of lines stands for.
use Rattle.std.specs.Prelude.{◌≡◌, ◌⊎◌, ℕ, length, ◌+◌, ◌≤◌, List, Option, Result, Ok, Err, slice_range, Some, None, [], ◌++◌, MatchResult}
use Rattle.list_core.specs.declared.device.InputEnd.{InputEnd}
use Rattle.list_core.specs.declared.list_fault.ListFault.{ListFault}
use Rattle.list_core.specs.declared.line_reader.LineReader.{LineReader}
use Rattle.std.specs.Borrow.{Bor}
use Rattle.std.specs.Io.KnownBytes.{Consumes}
use Rattle.list_core.specs.Cuts.{HasNo}
use Rattle.list_core.specs.Device.{GivesOctets, OnlyOpen}
use Rattle.list_core.specs.Lines.{LineListing, reading, put_line, finished, faulty, StartsLine, WhateverComes}

-- a text that is being read: what the source has left and how it ends, the octets that are held and not answered, and the count of lines taken before
pub record Stream : Type 0 where
  pub left : Option (List ℕ)
  pub ending : InputEnd
  pub held : List ℕ
  pub taken : ℕ

-- the octets that r holds and has not answered
abbrev pub held : {R : Type 0} → LineReader R → List ℕ
held r = slice_range r.buffer r.start r.end

-- what r stands for
abbrev pub stream : {R : Type 0} → (R → Option (List ℕ)) → (R → InputEnd) → LineReader R → Stream
stream left ending r = record { left = left r.reader; ending = ending r.reader; held = held r; taken = r.taken }

-- what an answer says of the text before it and the text after it
abbrev pub Answered : Result (Option (List ℕ)) ListFault → LineListing → LineListing → Type 0
Answered (Ok (Some line)) whole rest = whole ≡ put_line line rest
Answered (Ok None) whole rest = (whole ≡ record { lines = []; stop = finished }) × (rest ≡ whole)
Answered (Err f) whole rest = (whole ≡ record { lines = []; stop = faulty f }) × (rest ≡ whole)

-- the count of lines taken, which stays within what a list may have
abbrev pub Counted : Result (Option (List ℕ)) ListFault → ℕ → ℕ → Type 0
Counted (Ok (Some line)) old new = (new ≡ old + 1) × (new ≤ 1000000)
Counted (Ok None) old new = new ≡ old
Counted (Err f) old new = new ≡ old

-- the octets from the start of the answered line on: a whole line is taken off their front, or none
abbrev pub TakesLineOff : Result (Option (List ℕ)) ListFault → InputEnd → List ℕ → List ℕ → Type 0
TakesLineOff (Ok (Some line)) z octets held = (front : List ℕ) × (octets ≡ front ++ held) × StartsLine z front held
TakesLineOff (Ok None) z octets held = held ≡ octets
TakesLineOff (Err f) z octets held = held ≡ octets

-- what is held is no whole line, and no longer than one can be
abbrev pub IsWanting : List ℕ → Type 0
IsWanting held = HasNo 10 held × (length held ≤ 4096)

-- The source was asked for octets only where what was held was wanting: what was held at first; and what was held in the end, where the last read gave none and told another ending.
abbrev pub OnlyWanting : Option (List ℕ) → InputEnd → List ℕ → List ℕ → Option (List ℕ) → InputEnd → Type 0
OnlyWanting old z held given new w = ((given ≡ []) × (new ≡ old) × (w ≡ z)) ⊎ (IsWanting held × ((w ≡ z) ⊎ IsWanting (held ++ given)))

-- An answer takes its line off the front of the text. The end and a fault stay.
pub record AnswersLine (old : Stream) (answer : Result (Option (List ℕ)) ListFault) (new : Stream) : Type 0 where
  pub given : List ℕ
  pub took : MatchResult answer (λ _. Consumes old.left new.left given) (λ _. GivesOctets old.left new.left given)
  pub only_open : OnlyOpen old.ending given new.ending
  pub asked : OnlyWanting old.left old.ending old.held given new.left new.ending
  pub counted : Counted answer old.taken new.taken
  pub bounded : length (old.held ++ given) ≤ 8192
  pub off : TakesLineOff answer new.ending (old.held ++ given) new.held
  pub reads : WhateverComes new.ending (λ z more. Answered answer (reading z old.taken (old.held ++ given ++ more)) (reading z new.taken (new.held ++ more)))

-- the line that an answer lends
abbrev pub lent_line : Result (Option (Bor (List ℕ))) ListFault → Result (Option (List ℕ)) ListFault
lent_line (Ok None) = Ok None
lent_line (Ok (Some s)) = Ok (Some s.now)
lent_line (Err f) = Err f

-- the number of the line last answered or refused
abbrev pub reader_number : {R : Type 0} → LineReader R → ℕ
reader_number r = r.number

-- the number of the line last answered or refused, after an answer
abbrev pub line_number_told : Stream → Result (Option (List ℕ)) ListFault → ℕ → ℕ
line_number_told old (Ok (Some line)) n = old.taken + 1
line_number_told old (Ok None) n = n
line_number_told old (Err f) n = f.line

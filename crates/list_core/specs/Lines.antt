-- A list is a text: its lines, and what ends them.
use Rattle.std.specs.Prelude.{◌≡◌, ℕ, ◌+◌, ◌⊎◌, List, [], ◌∷◌, ◌++◌, length, nat_le, nat_lt, if◌then◌else◌}
use Rattle.list_core.specs.Cuts.{cut_at}
use Rattle.std.specs.Io.BufRead.{strip_last}
use Rattle.list_core.specs.declared.device.InputEnd.{InputEnd}
use Rattle.list_core.specs.declared.device.InputEnd.TheVariants.{Open, End, Failed}
use Rattle.list_core.specs.declared.list_fault.ListCause.{ListCause}
use Rattle.list_core.specs.declared.list_fault.ListCause.TheVariants.{LineTooLong, ListTooLong, ReadFailed}
use Rattle.list_core.specs.declared.list_fault.ListFault.{ListFault}

-- how the lines of a text, or what they give, end: with the input, open, or by a fault
pub data Stop (F : Type 0) : Type 0 where
  finished : Stop F
  unfinished : Stop F
  faulty : F → Stop F

-- the lines of a text without their endings, up to the first bad one, and how they end
pub record LineListing : Type 0 where
  pub lines : List (List ℕ)
  pub stop : Stop ListFault

-- no line, and a fault in the line after n others
abbrev pub fault_at : ℕ → ListCause → LineListing
fault_at n why = record { lines = []; stop = faulty (record { line = n + 1; cause = why }) }

-- the octets cut at each LF; what follows the last LF comes last
abbrev pub pieces : List ℕ → List (List ℕ)
pieces text = cut_at 10 text

-- what follows a front of a text begins with the start of a line: nothing stands before it, an LF does, or the input has ended and nothing follows
abbrev pub StartsLine : InputEnd → List ℕ → List ℕ → Type 0
StartsLine z front rest = (front ≡ []) ⊎ ((line : List ℕ) × (front ≡ line ++ 10 ∷ [])) ⊎ ((rest ≡ []) × (z ≡ End))

-- a line without the CR at its end
abbrev pub without_cr : List ℕ → List ℕ
without_cr line = strip_last 13 line

-- a line before the others
abbrev pub put_line : List ℕ → LineListing → LineListing
put_line line r = record { lines = line ∷ r.lines; stop = r.stop }

-- what stands at the end of the input, after n lines
abbrev pub reading_at_end : InputEnd → ℕ → List ℕ → LineListing
reading_at_end End n [] = record { lines = []; stop = finished }
reading_at_end End n (x ∷ xs) = record { lines = without_cr (x ∷ xs) ∷ []; stop = finished }
reading_at_end Open n rest = record { lines = []; stop = unfinished }
reading_at_end Failed n rest = fault_at n ReadFailed

-- a line of a list that has room for it, and that is no longer than it may be
abbrev pub line_judged : ℕ → List ℕ → LineListing → LineListing
line_judged n line r = if nat_le 1000000 n then fault_at n ListTooLong else (if nat_lt 4096 (length line) then fault_at n LineTooLong else r)

-- what follows the last LF
abbrev pub reading_of_rest : InputEnd → ℕ → List ℕ → LineListing
reading_of_rest z n [] = reading_at_end z n []
reading_of_rest z n (x ∷ xs) = line_judged n (x ∷ xs) (reading_at_end z n (x ∷ xs))

-- the pieces of a text after n lines
abbrev pub reading_of_pieces : InputEnd → ℕ → List (List ℕ) → LineListing
reading_of_pieces z n [] = reading_at_end z n []
reading_of_pieces z n (rest ∷ []) = reading_of_rest z n rest
reading_of_pieces z n (line ∷ next ∷ more) = line_judged n line (put_line (without_cr line) (reading_of_pieces z (n + 1) (next ∷ more)))

-- a text that follows n lines, with its ending
unfoldable pub reading : InputEnd → ℕ → List ℕ → LineListing
reading z n text = reading_of_pieces z n (pieces text)

-- what can still come after a source told its ending
abbrev pub CanFollow : InputEnd → List ℕ → InputEnd → Type 0
CanFollow Open more z = Unit {0}
CanFollow End more z = (more ≡ []) × (z ≡ End)
CanFollow Failed more z = (more ≡ []) × (z ≡ Failed)

-- this is so of all that can still come after a source told this ending
abbrev pub WhateverComes : InputEnd → (InputEnd → List ℕ → Type 0) → Type 0
WhateverComes ending Is = (more : List ℕ) (z : InputEnd) → CanFollow ending more z → Is z more

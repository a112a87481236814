-- What the lines of a list say, over a whole input, by rules that the kind of list brings.
use Rattle.std.specs.Prelude.{◌≡◌, ℕ, ◌+◌, Bool, true, List, [], ◌∷◌, ◌++◌, Option, Some, None, Result, Ok, Err}
use Rattle.list_core.specs.declared.device.InputEnd.{InputEnd}
use Rattle.list_core.specs.declared.list_fault.ListFault.{ListFault}
use Rattle.list_core.specs.declared.line_rules.ItemFault.{ItemFault}
use Rattle.list_core.specs.declared.line_rules.ItemFault.TheVariants as fault
use Rattle.list_core.specs.declared.read_error.ReadError.{ReadError}
use Rattle.list_core.specs.declared.read_error.ReadError.TheVariants as read
use Rattle.list_core.specs.Lines.{LineListing, Stop, finished, unfinished, faulty, reading}

-- The rules of a kind of list: what a line says, given what the lines before it settled. S is what lines settle, as
-- the unit of the moments behind them, X what a line gives, and C why one is refused.
pub record Rules (S X C : Type 0) : Type 0 where
  -- what a line gives, if it gives anything, and what is settled after it
  pub said : S → List ℕ → Result (Option X × S) C
  -- whether a line has something to keep in memory
  pub keeps : S → List ℕ → Bool
  -- what is missing where the input ends
  pub lacks : S → Option C

-- numbered items up to the first fault of an input, and how they stop
pub record Numbered (X F : Type 0) : Type 0 where
  pub items : List (ℕ × X)
  pub stop : Stop F

-- those of a list, up to its first bad line
abbrev pub Listing : Type 0 → Type 0 → Type 0
Listing X C = Numbered X (ItemFault C)

-- a numbered item before the others
abbrev pub put_item : {X F : Type 0} → ℕ × X → Numbered X F → Numbered X F
put_item e l = record { items = e ∷ l.items; stop = l.stop }

-- numbered items before the others
abbrev pub put_items : {X F : Type 0} → List (ℕ × X) → Numbered X F → Numbered X F
put_items es l = record { items = es ++ l.items; stop = l.stop }

-- no item before this stop
abbrev pub stops : {X F : Type 0} → Stop F → Numbered X F
stops s = record { items = []; stop = s }

-- the end of the input after n lines, where this is missing
abbrev pub missing : {C : Type 0} → ℕ → Option C → Stop (ItemFault C)
missing n None = finished
missing n (Some why) = faulty (fault.Line (n + 1) why)

-- how items stop where n lines stop so
abbrev pub close : {S X C : Type 0} → Rules S X C → S → ℕ → Stop ListFault → Stop (ItemFault C)
close r s n finished = missing n (r.lacks s)
close r s n unfinished = unfinished
close r s n (faulty f) = faulty (fault.Lines f)

-- what a line says, before what the lines after it say; n lines stand before it
abbrev pub put_said : {S X C : Type 0} → ℕ → Result (Option X × S) C → (S → Listing X C) → Listing X C
put_said n (Ok (None, s)) rest = rest s
put_said n (Ok (Some x, s)) rest = put_item (n + 1, x) (rest s)
put_said n (Err why) rest = stops (faulty (fault.Line (n + 1) why))

-- the items of lines that follow n others, which settled s
unfoldable pub items_said : {S X C : Type 0} → Rules S X C → S → ℕ → List (List ℕ) → Stop ListFault → Listing X C
items_said r s n [] stop = stops (close r s n stop)
items_said r s n (l ∷ ls) stop = put_said n (r.said s l) (λ t. items_said r t (n + 1) ls stop)

-- the items of a reading that follows n lines
abbrev pub items_in : {S X C : Type 0} → Rules S X C → S → ℕ → LineListing → Listing X C
items_in r s n l = items_said r s n l.lines l.stop

-- the items of a text that follows n lines, with the ending of its source
abbrev pub listing : {S X C : Type 0} → Rules S X C → S → InputEnd → ℕ → List ℕ → Listing X C
listing r s z n text = items_in r s n (reading z n text)

-- What reading one line answers, and what is settled then: what the rules say that the line gives, or why it is
-- refused; or memory was wanted, which is so only where the line has something to keep. On a refusal, and on want of
-- memory, what was settled stays.
abbrev pub Says : {S X C : Type 0} → Rules S X C → S → List ℕ → Result (Option X) (ReadError C) → S → Type 0
Says r s l (Ok x) t = r.said s l ≡ Ok (x, t)
Says r s l (Err (read.Fault why)) t = (r.said s l ≡ Err why) × (t ≡ s)
Says r s l (Err (read.Memory e)) t = (r.keeps s l ≡ true) × (t ≡ s)

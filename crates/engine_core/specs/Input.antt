-- An input of numbered items: what it says, and how far it is read for its next answer.
use Rattle.std.specs.Prelude.{◌≡◌, ℕ, Bool, List, Option, Some, None, Ok, Err}
use Rattle.list_core.specs.declared.device.InputEnd.{InputEnd}
use Rattle.list_core.specs.Items.{Numbered, put_item, put_items, stops}
use Rattle.list_core.specs.Lines.{finished, faulty}
use Rattle.list_core.specs.ReadItems.{AnswerOf, Gave}

-- How faults of an input come about. C is why an item is refused, F is a fault.
pub record Faults (C F : Type 0) : Type 0 where
  -- that of the item of this number, which is refused for this
  pub refused : ℕ → C → F
  -- whether a fault is a failed read of the source
  pub failed : F → Bool

-- What an input is, by the octets that were read of it and how its source stands. X are its items.
pub record Input (X C F : Type 0) : Type 1 where
  -- the items in order, and how they stop
  pub says : InputEnd → List ℕ → Numbered X F
  -- behind these items no more was read than this answer needs; it is want of memory only where something has to be kept
  pub stands : InputEnd → List ℕ → List (ℕ × X) → AnswerOf X F → Type 0
  pub faults : Faults C F

-- what an answer says of what an input says onward
abbrev pub TellsNext : {X F : Type 0} → AnswerOf X F → Numbered X F → Type 0
TellsNext {X = X} {F = F} (Ok (Some e)) onward = (others : Numbered X F) × (onward ≡ put_item e others)
TellsNext (Ok None) onward = onward ≡ stops finished
TellsNext (Err (Some f)) onward = onward ≡ stops (faulty f)
TellsNext (Err None) onward = Unit {0}

-- Of an input of which these octets were read, these items were given, and then this answer: so it says, and no more was read than the answer needs.
pub record IsRead {X C F : Type 0} (input : Input X C F) (z : InputEnd) (read : List ℕ) (items : List (ℕ × X)) (answer : AnswerOf X F) : Type 0 where
  -- what the input says behind the items
  pub onward : Numbered X F
  pub says : input.says z read ≡ put_items items onward
  pub tells : TellsNext answer onward
  pub stands : input.stands z read items answer

-- What reads an input: how an answer leads from how it stood to how it stands, the number of the item last given, and the faults.
pub record Reader (I X C F : Type 0) : Type 1 where
  pub answers : I → AnswerOf X F → I → Type 0
  pub number : I → ℕ
  pub faults : Faults C F

-- one of these answers, numbers, refusals and failures
abbrev pub reader_of : {I X C F : Type 0} → (I → AnswerOf X F → I → Type 0) → (I → ℕ) → (ℕ → C → F) → (F → Bool) → Reader I X C F
reader_of answers number refused failed = record { answers = answers; number = number; faults = record { refused = refused; failed = failed } }

-- it gave these items, and then this answer
pub record GaveThen {I X C F : Type 0} (reader : Reader I X C F) (start end : I) (items : List (ℕ × X)) (answer : AnswerOf X F) : Type 0 where
  -- how it stood before the answer
  pub before : I
  pub gave : Gave reader.answers start items before
  pub answered : reader.answers before answer end

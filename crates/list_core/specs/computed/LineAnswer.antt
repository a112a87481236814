-- What reading a line for its event answers.
use Rattle.std.specs.Prelude.{◌≡◌, ◌<◌, ℕ, Bool, true, List, length, ◌∷◌, Option, Some, is_some, Result, Ok, Err}
use Rattle.std.specs.Borrow.{Bor}
use Rattle.list_core.specs.declared.event.Event.{Event}
use Rattle.list_core.specs.declared.list_fault.ListCause.{ListCause}
use Rattle.list_core.specs.declared.read_error.ReadError.{ReadError}
use Rattle.list_core.specs.declared.read_error.ReadError.TheVariants as read
use Rattle.list_core.specs.declared.event_lines.MomentUnit.{MomentUnit}
use Rattle.list_core.specs.Cuts.{parts_after}
use Rattle.list_core.specs.EventLine.{fields, moment_of}

-- the answer is what the line says, or memory was wanted where the line has something to keep
abbrev pub Answers : {A : Type 0} → Result (Option (Event A)) (ReadError ListCause) → Result (Option (Event A)) ListCause → Bool → Type 0
Answers (Ok event) said keeps = said ≡ Ok event
Answers (Err (read.Fault why)) said keeps = said ≡ Err why
Answers (Err (read.Memory e)) said keeps = keeps ≡ true

-- these octets were read where they are written; or memory was wanted, where some are
abbrev pub OctetsAreRead : {E : Type 0} → Result (List ℕ) E → Option (List ℕ) → Type 0
OctetsAreRead (Ok octets) written = written ≡ Some octets
OctetsAreRead (Err e) written = is_some written ≡ true

-- the fields after a first one, where a space follows it
abbrev pub fields_after : Option (Bor (List ℕ)) → List (List ℕ)
fields_after rest = parts_after 32 rest

-- the first of these fields, not empty, writes this moment, or none, and these octets follow its space
abbrev pub IsFront : MomentUnit → List ℕ → Option ℕ → List ℕ → Type 0
IsFront unit xs moment rest = (field : List ℕ) × (0 < length field) × (fields xs ≡ field ∷ fields rest) × (moment ≡ moment_of unit field)

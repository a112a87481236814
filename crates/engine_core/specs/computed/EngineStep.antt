-- What one answer of a reader of items makes an engine write.
use Rattle.std.specs.Prelude.{◌≡◌, ◌⊎◌, ℕ, Bool, List, [], ◌∷◌, ◌++◌, slice_get, Option, Some, None, Result, Ok, Err, true, false}
use Rattle.std.specs.Io.KnownBytes.{Appends}
use Rattle.list_core.specs.declared.read_error.ReadError.{ReadError}
use Rattle.list_core.specs.declared.read_error.ReadError.TheVariants as read
use Rattle.list_core.specs.ReadItems.{AnswerOf}
use Rattle.engine_core.specs.declared.running.Next.{Next}
use Rattle.engine_core.specs.declared.running.Next.TheVariants as next
use Rattle.engine_core.specs.declared.stopped.Halt.{Halt}
use Rattle.engine_core.specs.declared.stopped.Halt.TheVariants as halt
use Rattle.engine_core.specs.EngineText.{Allowed, ItemText, step_text_to}
use Rattle.engine_core.specs.RunOver.{IsDue, Stops, StopsAtLine, WantsFor, ending_by_halt, fault_by_halt}

-- an engine took an item after others: its text was appended to a line, and the engine stands after this item too
pub record ItemTaken {X C F : Type 0} (t : Allowed X C F) (stands : List (ℕ × X) → Type 0) (before : List (ℕ × X)) (e : ℕ × X) (found : Bool) (old new : List ℕ) : Type 0 where
  pub text : List ℕ
  pub has_text : t.of_item before e (Ok (text, found))
  pub appended : new ≡ old ++ text
  pub stands_after : stands (before ++ e ∷ [])

-- an item after others may be refused for this, and nothing else is allowed
pub record IsRefused {X C F : Type 0} (t : Allowed X C F) (before : List (ℕ × X)) (e : ℕ × X) (why : C) : Type 0 where
  pub is_allowed : t.of_item before e (Err why)
  pub only : (written : Result (List ℕ × Bool) C) → t.of_item before e written → written ≡ Err why

-- what an engine answers for an item after others: it was taken; or refused; or memory was wanted, where something may be kept, or whatever may be written is not empty
abbrev pub Takes : {X C F : Type 0} → (ℕ → C → F) → Allowed X C F → (List (ℕ × X) → Type 0) → List (ℕ × X) → ℕ × X → Result Bool (ReadError C) → List ℕ → List ℕ → Type 0
Takes refused t stands before e (Ok found) old new = ItemTaken t stands before e found old new
Takes refused t stands before e (Err (read.Fault why)) old new = IsRefused t before e why
Takes {C = C} refused t stands before e (Err (read.Memory m)) old new = t.keeps before e ⊎ ((written : Result (List ℕ × Bool) C) → t.of_item before e written → step_text_to refused t e.0 written ≡ [] → ⊥)

-- what an engine answers of the lines at the end that stands at a position: it was appended; or there is none; or memory was wanted for it, which is not empty
abbrev pub PutsLine : {M : Type 0} → List ItemText → ℕ → Result (Option Bool) M → List ℕ → List ℕ → Type 0
PutsLine lines at (Ok (Some found)) old new = (w : ItemText) × (slice_get lines at ≡ Some w) × (new ≡ old ++ w.text) × (found ≡ w.is_finding)
PutsLine lines at (Ok None) old new = slice_get lines at ≡ None
PutsLine lines at (Err m) old new = (w : ItemText) × (slice_get lines at ≡ Some w) × (w.text ≡ [] → ⊥)

-- an item was answered, and its text was written; the engine stands after this item too
pub record ItemWritten {X C F : Type 0} (t : Allowed X C F) (stands : List (ℕ × X) → Type 0) (before : List (ℕ × X)) (answer : AnswerOf X F) (found : Bool) (old new : Option (List ℕ)) : Type 0 where
  pub item : ℕ × X
  pub text : List ℕ
  pub answered : answer ≡ Ok (Some item)
  pub has_text : t.of_item before item (Ok (text, found))
  pub written : Appends old new text
  pub stands_after : stands (before ++ item ∷ [])

-- what is written after an answer, and how the run goes on: an item was written, the list has ended, or the run stops
abbrev pub StepWrites : {X C F : Type 0} → (ℕ → C → F) → Allowed X C F → (List (ℕ × X) → Type 0) → List (ℕ × X) → AnswerOf X F → Next F → Option (List ℕ) → Option (List ℕ) → Type 0
StepWrites refused t stands before answer (next.Wrote found) old new = ItemWritten t stands before answer found old new
StepWrites refused t stands before answer next.Ended old new = (answer ≡ Ok None) × (new ≡ old) × stands before
StepWrites refused t stands before answer (next.Stop halt) old new = Stops (WantsFor refused t before answer) (IsDue refused t before answer) halt old new

-- what is written of the lines at the end that stands at a position, and how the run goes on: the line was written, there is none, or the run stops at it
abbrev pub LineWrites : {F : Type 0} → List ItemText → ℕ → Next F → Option (List ℕ) → Option (List ℕ) → Type 0
LineWrites lines at (next.Wrote found) old new = (w : ItemText) × (slice_get lines at ≡ Some w) × Appends old new w.text × (found ≡ w.is_finding)
LineWrites lines at next.Ended old new = (slice_get lines at ≡ None) × (new ≡ old)
LineWrites lines at (next.Stop halt) old new = (w : ItemText) × (slice_get lines at ≡ Some w) × StopsAtLine w.text (ending_by_halt (λ why. false) halt) old new × (fault_by_halt halt ≡ None)

-- whether a run stops because its writer failed
abbrev pub is_failed_write : {F : Type 0} → Halt F → Bool
is_failed_write (halt.Fault why) = false
is_failed_write halt.WriteFault = true
is_failed_write halt.Memory = false

-- whether the run stops, for such a reason
abbrev pub stops_by : {F : Type 0} → (Halt F → Bool) → Next F → Bool
stops_by is (next.Wrote found) = false
stops_by is next.Ended = false
stops_by is (next.Stop halt) = is halt

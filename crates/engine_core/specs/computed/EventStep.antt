-- What an engine over events answers for one event.
use Rattle.std.specs.Prelude.{◌≡◌, ℕ, Bool, List, [], ◌∷◌, ◌++◌, Result, Ok, Err}
use Rattle.list_core.specs.declared.event.Event.{Event}
use Rattle.engine_core.specs.EventsText.{EventAllows}

-- it took an event after others: a text that is allowed was appended to a line, and the engine stands after this event too
pub record EventTaken {A : Type 0} (allows : EventAllows A) (stands : List (ℕ × Event A) → Type 0) (before : List (ℕ × Event A)) (e : ℕ × Event A) (found : Bool) (old new : List ℕ) : Type 0 where
  pub text : List ℕ
  pub is_allowed : allows before e (text, found)
  pub appended : new ≡ old ++ text
  pub stands_after : stands (before ++ e ∷ [])

-- it was taken; or memory was wanted, where whatever may be written is not empty
abbrev pub TakesEvent : {A M : Type 0} → EventAllows A → (List (ℕ × Event A) → Type 0) → List (ℕ × Event A) → ℕ × Event A → Result Bool M → List ℕ → List ℕ → Type 0
TakesEvent allows stands before e (Ok found) old new = EventTaken allows stands before e found old new
TakesEvent allows stands before e (Err m) old new = (written : List ℕ × Bool) → allows before e written → written.0 ≡ [] → ⊥

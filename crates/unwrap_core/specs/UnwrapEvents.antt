-- Events of which each is changed as is asked for: its frame is looked at without what was put round it.
use Rattle.std.specs.Prelude.{◌≡◌, ℕ, List, map, Bool, true, false, Some, None, Ok, Err}
use Rattle.list_core.specs.declared.event.Event.{Event}
use Rattle.list_core.specs.declared.event.EventKind.{EventKind}
use Rattle.list_core.specs.declared.event.EventKind.TheVariants.{Frame, Clock, Mode}
use Rattle.list_core.specs.ReadItems.{AnswerOf, Gave}
use Rattle.unwrap_core.specs.Unwrapped.{unwrapped}
use Rattle.unwrap_core.specs.declared.unwrap.Changes.{Changes}
use Rattle.unwrap_core.specs.declared.unwrap.Unwrap.{Unwrap}

-- what happened, a frame of it unwrapped
abbrev pub unwrap_kind : {A : Type 0} → EventKind A → EventKind A
unwrap_kind (Frame o) = Frame (unwrapped o)
unwrap_kind Clock = Clock
unwrap_kind (Mode on) = Mode on

-- an event, its frame unwrapped
abbrev pub unwrap_event : {A : Type 0} → Event A → Event A
unwrap_event e = record { moment = e.moment; kind = unwrap_kind e.kind }

-- the same, where frames are unwrapped
abbrev pub unwrap_where : {A : Type 0} → Bool → Event A → Event A
unwrap_where true e = unwrap_event e
unwrap_where false e = e

-- an event, changed so; a further change is one more call here
abbrev pub change_event : {A : Type 0} → Changes → Event A → Event A
change_event changes e = unwrap_where changes.unwraps e

-- an answer, its event changed so
abbrev pub change_answer : {A F : Type 0} → Changes → AnswerOf (Event A) F → AnswerOf (Event A) F
change_answer changes (Ok None) = Ok None
change_answer changes (Ok (Some e)) = Ok (Some (e.0, change_event changes e.1))
change_answer changes (Err f) = Err f

-- the reader whose events they are
abbrev pub under : {I : Type 0} → Unwrap I → I
under s = s.items

-- The reader beneath gave an answer. This one is the same with its event changed, and the changes stay.
pub record UnwrapsEach {I A F : Type 0} (answers : I → AnswerOf (Event A) F → I → Type 0) (old : Unwrap I) (answer : AnswerOf (Event A) F) (new : Unwrap I) : Type 0 where
  pub given : AnswerOf (Event A) F
  pub read : answers (under old) given (under new)
  pub made : answer ≡ change_answer old.changes given
  pub stays : new.changes ≡ old.changes

-- an event with its number, changed so
abbrev pub change_numbered : {A : Type 0} → Changes → ℕ × Event A → ℕ × Event A
change_numbered changes e = (e.0, change_event changes e.1)

-- What was answered one after another are the events that the reader beneath gave, changed.
abbrev pub UnwrapsWhatCame : {I A F : Type 0} → (I → AnswerOf (Event A) F → I → Type 0) → Type 0
UnwrapsWhatCame {I = I} {A = A} answers =
    (start end : Unwrap I) (es : List (ℕ × Event A)) → Gave (UnwrapsEach answers) start es end
    → (given : List (ℕ × Event A)) × Gave answers (under start) given (under end) × (es ≡ map (change_numbered start.changes) given) × (end.changes ≡ start.changes)

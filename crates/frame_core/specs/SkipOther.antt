-- Events of which the frames of other protocols are passed over: such a frame tells only that time has passed.
use Rattle.std.specs.Prelude.{◌≡◌, ℕ, List, [], ◌∷◌, map, Option, Some, None, Ok, Err}
use Rattle.std.specs.List.{flat_map}
use Rattle.list_core.specs.declared.event.Event.{Event}
use Rattle.list_core.specs.declared.event.EventKind.{EventKind}
use Rattle.list_core.specs.declared.event.EventKind.TheVariants.{Frame, Clock, Mode}
use Rattle.list_core.specs.ReadItems.{AnswerOf, Gave}
use Rattle.tally_core.specs.Tally.{Tally, count_all, count_one}
use Rattle.frame_core.specs.OtherType.{other_type}
use Rattle.frame_core.specs.declared.skip_other.SkipOther.{SkipOther}

-- the EtherType of the frame of another protocol that happened
abbrev pub type_passed : {A : Type 0} → EventKind A → Option ℕ
type_passed (Frame o) = other_type o
type_passed Clock = None
type_passed (Mode on) = None

-- what is left of an event that has such an EtherType, or none
abbrev pub event_where : {A : Type 0} → Option ℕ → Event A → Event A
event_where None e = e
event_where (Some t) e = record { moment = e.moment; kind = Clock }

-- what is left of an event where frames of other protocols are passed over
abbrev pub skip_other : {A : Type 0} → Event A → Event A
skip_other e = event_where (type_passed e.kind) e

-- an answer with what is left of its event
abbrev pub skip_answer : {A F : Type 0} → AnswerOf (Event A) F → AnswerOf (Event A) F
skip_answer (Ok None) = Ok None
skip_answer (Ok (Some e)) = Ok (Some (e.0, skip_other e.1))
skip_answer (Err f) = Err f

-- a frame of this number is passed over where it has such an EtherType
abbrev pub pass_where : ℕ → Option ℕ → Tally → Tally
pass_where number None a = a
pass_where number (Some t) a = count_one number t a

-- what is kept of the frame of an answer, if it is passed over
abbrev pub pass_answer : {A F : Type 0} → AnswerOf (Event A) F → Tally → Tally
pass_answer (Ok None) a = a
pass_answer (Ok (Some e)) a = pass_where e.0 (type_passed e.1.kind) a
pass_answer (Err f) a = a

-- the reader whose events they are
abbrev pub beneath : {I A : Type 0} → SkipOther I A → I
beneath s = s.items

-- what is kept of the frames that were passed over
abbrev pub passed_over : {I A : Type 0} → SkipOther I A → Tally
passed_over s = s.passed

-- The reader beneath gave an answer. This one is what is left of it, and what is passed over of it is kept.
pub record Skips {I A F : Type 0} (answers : I → AnswerOf (Event A) F → I → Type 0) (old : SkipOther I A) (answer : AnswerOf (Event A) F) (new : SkipOther I A) : Type 0 where
  pub given : AnswerOf (Event A) F
  pub read : answers (beneath old) given (beneath new)
  pub left : answer ≡ skip_answer given
  pub kept : passed_over new ≡ pass_answer given (passed_over old)

-- what is left of an event with its number
abbrev pub skip_numbered : {A : Type 0} → ℕ × Event A → ℕ × Event A
skip_numbered e = (e.0, skip_other e.1)

-- the frame of this number, where it has such an EtherType
abbrev pub passed_where : ℕ → Option ℕ → List (ℕ × ℕ)
passed_where number None = []
passed_where number (Some t) = (number, t) ∷ []

-- the numbers and EtherTypes of the frames of other protocols among events
abbrev pub passed_in : {A : Type 0} → List (ℕ × Event A) → List (ℕ × ℕ)
passed_in es = flat_map (λ e. passed_where e.0 (type_passed e.1.kind)) es

-- What was answered one after another is what is left of the events that the reader beneath gave, and what is kept is what it was
-- before and those of them that are passed over.
abbrev pub LeavesWhatCame : {I A F : Type 0} → (I → AnswerOf (Event A) F → I → Type 0) → Type 0
LeavesWhatCame {I = I} {A = A} answers =
    (start end : SkipOther I A) (es : List (ℕ × Event A)) → Gave (Skips answers) start es end
    → (given : List (ℕ × Event A)) × Gave answers (beneath start) given (beneath end) × (es ≡ map skip_numbered given)
    × (passed_over end ≡ count_all (passed_in given) (passed_over start))

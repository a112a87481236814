-- What an engine over events writes, whatever input the events come from.
use Rattle.std.specs.Prelude.{◌≡◌, ℕ, Bool, List, [], ◌++◌, codes, Result, Ok, Err}
use Rattle.list_core.specs.declared.event.Event.{Event}
use Rattle.engine_core.specs.declared.style.Style.{Style}
use Rattle.engine_core.specs.declared.style.Style.TheVariants.{Lines, Dated}
use Rattle.object_core.specs.declared.counted.Form.{Form}
use Rattle.object_core.specs.declared.counted.Form.TheVariants as forms
use Rattle.engine_core.specs.Dated.{dated}
use Rattle.engine_core.specs.EngineText.{Allowed, TextTo, ends_silently, keeps_nothing}

-- what is written of an event after others, and whether it is a finding; no event is refused
abbrev pub EventText : Type 0 → Type 0
EventText A = List (ℕ × Event A) → ℕ × Event A → List ℕ × Bool

-- what may be written of an event after others, with whether it is a finding then
abbrev pub EventAllows : Type 0 → Type 1
EventAllows A = List (ℕ × Event A) → ℕ × Event A → List ℕ × Bool → Type 0

-- this text and no other
abbrev pub exactly_event : {A : Type 0} → EventText A → EventAllows A
exactly_event text before e written = text before e ≡ written

-- the same may be written by both
pub record AlikeEvents {A : Type 0} (a b : EventAllows A) : Type 0 where
  pub there : (before : List (ℕ × Event A)) (e : ℕ × Event A) (written : List ℕ × Bool) → a before e written → b before e written
  pub back : (before : List (ℕ × Event A)) (e : ℕ × Event A) (written : List ℕ × Bool) → b before e written → a before e written

-- of an event nothing may be written in each case, or in none
abbrev pub AgreesOnNothing : {A : Type 0} → EventAllows A → Type 0
AgreesOnNothing {A} allows = (before : List (ℕ × Event A)) (e : ℕ × Event A) (written other : List ℕ × Bool) → allows before e written → allows before e other → written.0 ≡ [] → other.0 ≡ []

-- an event is written so, and none is refused
abbrev pub AllowsStep : {A C : Type 0} → EventAllows A → List (ℕ × Event A) → ℕ × Event A → Result (List ℕ × Bool) C → Type 0
AllowsStep allows before e (Ok written) = allows before e written
AllowsStep allows before e (Err why) = ⊥

-- how the fault of an input is told last: by a line of text, or by an object
pub record FaultText (F : Type 0) : Type 0 where
  pub line : F → List ℕ
  pub object : F → List ℕ

-- by these
abbrev pub fault_text : {F : Type 0} → (F → List ℕ) → (F → List ℕ) → FaultText F
fault_text line object = record { line = line; object = object }

-- that over an input, the fault of which a last line tells
abbrev pub over_allowed : {A C F : Type 0} → EventAllows A → (F → List ℕ) → Allowed (Event A) C F
over_allowed allows last_line = record { first = []; of_item = λ before e written. AllowsStep allows before e written; keeps = keeps_nothing; at_end = ends_silently; last = last_line }

-- a text that is fixed over an input, the fault of which a last line tells
abbrev pub over_events : {A C F : Type 0} → EventText A → (F → List ℕ) → TextTo (Event A) C F
over_events text last_line = record { first = []; of_item = λ before e. Ok (text before e); last = last_line }

-- ---- styles

-- a text that may be written of an event, behind its date
pub record IsDated {A : Type 0} (allows : EventAllows A) (before : List (ℕ × Event A)) (e : ℕ × Event A) (written : List ℕ × Bool) : Type 0 where
  pub text : List ℕ
  pub is_allowed : allows before e (text, written.1)
  pub is_dated : written.0 ≡ dated e.1.moment text

-- what may be written of an event in a style, by what may be in each form
abbrev pub in_style : {A : Type 0} → Style → (Form → EventAllows A) → EventAllows A
in_style (Lines form) allows = allows form
in_style Dated allows = IsDated (allows forms.Text)

-- what no event has, in a style: this line of text, or this object
abbrev pub line_in : Style → List ℕ → List ℕ → List ℕ
line_in (Lines forms.Text) line object = line
line_in (Lines (forms.Object counted)) line object = object
line_in Dated line object = codes "- " ++ line

-- what an engine may write over an input in a style
abbrev pub over_in : {A C F : Type 0} → Style → (Form → EventAllows A) → FaultText F → Allowed (Event A) C F
over_in style allows last = over_allowed (in_style style allows) (λ f. line_in style (last.line f) (last.object f))

-- ---- runs

-- a text of events for each form, and no other
abbrev pub exactly_each : {A : Type 0} → (Form → EventText A) → Form → EventAllows A
exactly_each texts form = exactly_event (texts form)

-- An engine over events answers as one over an input of events.
use Rattle.std.proofs.Common.{◌≡◌, ℕ, Bool, List, [], ◌++◌, Result, Ok, Err, ap, sym, ◌∙◌, refl}
use Rattle.list_core.specs.declared.event.Event.{Event}
use Rattle.engine_core.specs.EngineText.{Alike, exactly}
use Rattle.engine_core.specs.declared.style.Style.{Style}
use Rattle.engine_core.specs.declared.style.Style.TheVariants.{Lines, Dated}
use Rattle.object_core.specs.declared.counted.Form.{Form}
use Rattle.object_core.specs.declared.counted.Form.TheVariants as forms
use Rattle.engine_core.specs.Dated.{dated, without_dates}
use Rattle.engine_core.specs.EventsText.{AgreesOnNothing, AlikeEvents, AllowsStep, EventAllows, EventText, exactly_event, in_style, over_allowed, over_events}
use Rattle.engine_core.proofs.DatesAway.{dates_go_away, without_none}
use Rattle.engine_core.specs.computed.EventStep.{EventTaken}

-- two engines that may write the same of events may do so over an input of events
pub alike_over : {A C F : Type 0} (a b : EventAllows A) (last_line : F → List ℕ) → AlikeEvents a b → Alike (over_allowed {C = C} a last_line) (over_allowed {C = C} b last_line)
alike_over {A} {C} a b last_line same =
    record { first = refl; there = there; back = back; keeps = λ before e is. is; keeps_back = λ before e is. is; ends = λ items lines is. is; ends_back = λ items lines is. is; last = λ f. refl }
  where
    there : (before : List (ℕ × Event A)) (e : ℕ × Event A) (written : Result (List ℕ × Bool) C) → AllowsStep a before e written → AllowsStep b before e written
    there before e (Ok written) is = same.there before e written is
    there before e (Err why) is = is

    back : (before : List (ℕ × Event A)) (e : ℕ × Event A) (written : Result (List ℕ × Bool) C) → AllowsStep b before e written → AllowsStep a before e written
    back before e (Ok written) is = same.back before e written is
    back before e (Err why) is = is

-- a text of events that is fixed is so over an input of events
pub exactly_over : {A C F : Type 0} (text : EventText A) (last_line : F → List ℕ) → Alike (over_allowed {C = C} (exactly_event text) last_line) (exactly (over_events {C = C} text last_line))
exactly_over {A} {C} text last_line =
    record { first = refl; there = there; back = back; keeps = λ before e is. is; keeps_back = λ before e is. is; ends = λ items lines is. is; ends_back = λ items lines is. is; last = λ f. refl }
  where
    there : (before : List (ℕ × Event A)) (e : ℕ × Event A) (written : Result (List ℕ × Bool) C) → AllowsStep (exactly_event text) before e written → Ok (text before e) ≡ written
    there before e (Ok written) is = ap (λ (w : List ℕ × Bool). Ok w) is
    there before e (Err why) is = absurd is

    back : (before : List (ℕ × Event A)) (e : ℕ × Event A) (written : Result (List ℕ × Bool) C) → Ok (text before e) ≡ written → AllowsStep (exactly_event text) before e written
    back before e (Ok written) is = cc
    back before e (Err why) is = cc

module _ {A : Type 0} (text : EventText A) (before : List (ℕ × Event A)) (e : ℕ × Event A) where
  -- a text that is fixed and not empty
  pub wanted_exactly : ((text before e).0 ≡ [] → ⊥) → (written : List ℕ × Bool) → exactly_event text before e written → written.0 ≡ [] → ⊥
  wanted_exactly some written is none = some (ap (λ (w : List ℕ × Bool). w.0) is ∙ none)

-- of an event a text that is fixed is nothing, or is not
pub exactly_agrees : {A : Type 0} (text : EventText A) → AgreesOnNothing (exactly_event text)
exactly_agrees text before e written other is too none = ap (λ (w : List ℕ × Bool). w.0) (sym too ∙ is) ∙ none

-- ---- styles

-- engines that may write the same may do so in each style
pub alike_in_style : {A : Type 0} (style : Style) (a b : Form → EventAllows A) → ((form : Form) → AlikeEvents (a form) (b form)) → AlikeEvents (in_style style a) (in_style style b)
alike_in_style (Lines form) a b same = same form
alike_in_style Dated a b same = record {
  there = λ before e written is. record { text = is.text; is_allowed = (same forms.Text).there before e (is.text, written.1) is.is_allowed; is_dated = is.is_dated };
  back = λ before e written is. record { text = is.text; is_allowed = (same forms.Text).back before e (is.text, written.1) is.is_allowed; is_dated = is.is_dated };
}

-- no text has no dates
pub dated_nothing : (moment : ℕ) (text : List ℕ) → dated moment text ≡ [] → text ≡ []
dated_nothing moment text none = sym (dates_go_away moment text) ∙ ap without_dates none ∙ without_none

module _ {A : Type 0} (by_form : Form → EventAllows A) (stands : List (ℕ × Event A) → Type 0) (before : List (ℕ × Event A)) (e : ℕ × Event A) where
  -- memory was wanted to write of it
  pub wanted_dated : ((written : List ℕ × Bool) → by_form forms.Text before e written → written.0 ≡ [] → ⊥) → (written : List ℕ × Bool) → in_style Dated by_form before e written → written.0 ≡ [] → ⊥
  wanted_dated some written is none = some (is.text, written.1) is.is_allowed (dated_nothing e.1.moment is.text (sym is.is_dated ∙ none))

  -- and to write its date
  pub wanted_date : AgreesOnNothing (by_form forms.Text) → (found : Bool) (held text : List ℕ) → held ≡ [] → EventTaken (by_form forms.Text) stands before e found held text → (text ≡ [] → ⊥) →
      (written : List ℕ × Bool) → in_style Dated by_form before e written → written.0 ≡ [] → ⊥
  wanted_date agrees found held text none took some =
      wanted_dated (λ written is nothing. some (took.appended ∙ ap (λ l. l ++ took.text) none ∙ agrees before e written (took.text, found) is took.is_allowed nothing))

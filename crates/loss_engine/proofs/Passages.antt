-- What one event tells, behind its date.
use Rattle.std.proofs.Common.{Option, ◌≡◌, ◌⊎◌, ◌∙◌, ◌++◌, ℕ, true, List, [], inl, inr, subst}
use Rattle.std.specs.Prelude.{max}
use Rattle.list_core.specs.declared.event.Event.{Event}
use Rattle.object_core.specs.declared.counted.Form.TheVariants.{Text}
use Rattle.object_core.specs.declared.counted.Heading.{Heading}
use Rattle.engine_core.specs.declared.style.Style.TheVariants.{Dated}
use Rattle.engine_core.proofs.EventSteps.{dated_nothing}
use Rattle.loss_core.specs.Periods.{Period}
use Rattle.loss_engine.specs.Sights.{sights_of}
use Rattle.loss_engine.specs.computed.Telling.{WantsAll, event_lines}
use Rattle.loss_engine.specs.computed.Tracking.{Kept, back_by, passed, piece_by, shows_new, sights_by}

module _ {A : Type 0} (periods : List Period) (k now : Kept) (n : ℕ) (e : Event A) (back : Option ℕ) (goes : back ≡ back_by k e.moment) (is : now ≡ passed k e.moment) where
  abbrev heading : Heading
  heading = record { form = Text; number = n; moment = e.moment }

  wants_so : WantsAll heading (back_by k e.moment) periods (passed k e.moment) (sights_of (max k.moment e.moment) e.kind) →
      (shows_new k.tracked (sights_by k e) ≡ true) ⊎ ((piece_by periods Dated k (n, e)).text ≡ [] → ⊥)
  wants_so (inl new) = inl new
  wants_so (inr some) = inr (λ none. some (dated_nothing e.moment _ none))

  -- what memory is wanted for before the dates
  pub wants_undated : WantsAll heading back periods now (sights_of now.moment e.kind) → (shows_new k.tracked (sights_by k e) ≡ true) ⊎ ((piece_by periods Dated k (n, e)).text ≡ [] → ⊥)
  wants_undated w = wants_so (subst (λ (p : Kept). WantsAll heading (back_by k e.moment) periods p (sights_of p.moment e.kind)) is (subst (λ b. WantsAll heading b periods now (sights_of now.moment e.kind)) goes w))

  -- and for the dates of what is told
  pub wants_dated : (old text : List ℕ) → old ≡ [] → text ≡ old ++ event_lines heading back periods now.tracked (sights_of now.moment e.kind) → (text ≡ [] → ⊥) → (piece_by periods Dated k (n, e)).text ≡ [] → ⊥
  wants_dated old text first told some none =
      let told_first : text ≡ event_lines heading back periods now.tracked (sights_of now.moment e.kind) = subst (λ l. text ≡ l ++ event_lines heading back periods now.tracked (sights_of now.moment e.kind)) first told in
      let told_back : text ≡ event_lines heading (back_by k e.moment) periods now.tracked (sights_of now.moment e.kind) = subst (λ b. text ≡ event_lines heading b periods now.tracked (sights_of now.moment e.kind)) goes told_first in
      let told_so : text ≡ event_lines heading (back_by k e.moment) periods k.tracked (sights_by k e) = subst (λ (p : Kept). text ≡ event_lines heading (back_by k e.moment) periods p.tracked (sights_of p.moment e.kind)) is told_back in
      some (told_so ∙ dated_nothing e.moment _ none)

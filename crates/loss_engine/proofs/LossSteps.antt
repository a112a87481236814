-- What `losses` writes by what it keeps may be written of events, and at their end.
use Rattle.std.proofs.Common.{Option, Ok, Err, Result, ◌≡◌, ◌⊎◌, ℕ, Bool, List, [], ◌∷◌, ◌++◌, inl, inr, ap, refl, ◌∙◌, sym, subst}
use Rattle.list_core.specs.declared.event.Event.{Event}
use Rattle.list_core.specs.Lines.{finished}
use Rattle.engine_core.specs.declared.style.Style.{Style}
use Rattle.engine_core.specs.EngineText.{ItemText, step_text_to}
use Rattle.engine_core.specs.EventsText.{FaultText}
use Rattle.engine_core.specs.computed.EngineStep.{ItemTaken, PutsLine}
use Rattle.loss_core.specs.Periods.{ArePeriods, Period}
use Rattle.loss_engine.specs.LossText.{ClosesEvents, Manner, ShowsNew, TellsEvent, losses_text}
use Rattle.loss_engine.specs.computed.Telling.{PutsPiece, WantsPiece}
use Rattle.loss_engine.specs.computed.Tracking.{Kept, closings, keep, keep_all, kept_none, piece_by}
use Rattle.loss_engine.proofs.LossLaws.{Follows, closes_events, event_told, follows_all}
use Rattle.loss_engine.proofs.LossWanted.{shown_new}
use Rattle.loss_engine.proofs.LossesOnce.{closes_once, event_once}

-- an event more
keep_push : {A : Type 0} (periods : List Period) (k : Kept) (before : List (ℕ × Event A)) (e : ℕ × Event A) → keep_all periods k (before ++ e ∷ []) ≡ keep periods (keep_all periods k before) e.1
keep_push periods k [] e = refl
keep_push periods k (x ∷ before) e = keep_push periods (keep periods k x.1) before e

-- how losses are told
abbrev pub manner : {F : Type 0} → List Period → Style → FaultText F → Manner F
manner periods style last = record { periods = periods; style = style; last = last }

module _ {A : Type 0} (periods : List Period) (are : ArePeriods periods) (style : Style) where
  -- this is kept behind these events
  abbrev pub KeptBehind : Kept → List (ℕ × Event A) → Type 0
  KeptBehind k before = k ≡ keep_all periods kept_none before

  follows : (k : Kept) (before : List (ℕ × Event A)) → KeptBehind k before → Follows periods before k
  follows k before is = subst (Follows periods before) (sym is) (follows_all periods are before)

  -- there is an end
  pub losses_end : (items : List (ℕ × Event A)) → (lines : List ItemText) × ClosesEvents periods style items lines
  losses_end items = (closings style (keep_all periods kept_none items), closes_events periods style items (keep_all periods kept_none items) (follows_all periods are items))

  -- of which the lines are those of what is kept
  pub end_is : (k : Kept) (items : List (ℕ × Event A)) (lines : List ItemText) → KeptBehind k items → ClosesEvents periods style items lines → closings style k ≡ lines
  end_is k items lines is may = closes_once {F = Unit {0}} periods style finished items (closings style k) lines (closes_events periods style items k (follows k items is)) may

  pub puts_line : {M : Type 0} (k : Kept) (items : List (ℕ × Event A)) (lines : List ItemText) → KeptBehind k items → ClosesEvents periods style items lines → (at : ℕ) (result : Result (Option Bool) M) (old new : List ℕ) →
      PutsLine (closings style k) at result old new → PutsLine lines at result old new
  puts_line k items lines is may at result old new p = subst (λ (l : List ItemText). PutsLine l at result old new) (end_is k items lines is may) p

  -- the piece of an event may be written of it, and no other
  pub piece_told : (k : Kept) (before : List (ℕ × Event A)) (e : ℕ × Event A) → KeptBehind k before → TellsEvent periods style before e (piece_by periods style k e)
  piece_told k before e is = event_told periods are style before k e (follows k before is)

  pub piece_once : (k : Kept) (before : List (ℕ × Event A)) (e : ℕ × Event A) (w : ItemText) → KeptBehind k before → TellsEvent periods style before e w → piece_by periods style k e ≡ w
  piece_once k before e w is told = event_once periods style before e (piece_by periods style k e) w (piece_told k before e is) told

  module _ {C F : Type 0} (last : FaultText F) where
    -- it was written, and the event is kept
    pub piece_taken : (k after : Kept) (now : List Period) (before : List (ℕ × Event A)) (e : ℕ × Event A) (found : Bool) (old new : List ℕ) → KeptBehind k before → now ≡ periods → PutsPiece periods style k e old found new after →
        ItemTaken (losses_text {C = C} (manner periods style last)) (λ items. after ≡ keep_all now kept_none items) before e found old new
    piece_taken k after now before e found old new is same p = record {
      text = (piece_by periods style k e).text;
      has_text = subst (λ (f : Bool). TellsEvent periods style before e (record { text = (piece_by periods style k e).text; is_finding = f })) (sym p.finds) (piece_told k before e is);
      appended = p.text;
      stands_after = p.keeps ∙ ap (λ (x : Kept). keep periods x e.1) is ∙ sym (keep_push periods kept_none before e) ∙ ap (λ (ps : List Period). keep_all ps kept_none (before ++ e ∷ [])) (sym same);
    }

    -- memory was wanted for it, or for a sender or a stream that is new
    pub piece_wanted : (refused : ℕ → C → F) (k : Kept) (before : List (ℕ × Event A)) (e : ℕ × Event A) → KeptBehind k before → WantsPiece periods style k e →
        ShowsNew before e ⊎ ((written : Result (List ℕ × Bool) C) → (losses_text {C = C} (manner periods style last)).of_item before e written → step_text_to refused (losses_text {A = A} {C = C} (manner periods style last)) e.0 written ≡ [] → ⊥)
    piece_wanted refused k before e is (inl new) = inl (shown_new periods are before k e (follows k before is) new)
    piece_wanted refused k before e is (inr some) = inr some_written
      where
        some_written : (written : Result (List ℕ × Bool) C) → (losses_text {C = C} (manner periods style last)).of_item before e written → step_text_to refused (losses_text {A = A} {C = C} (manner periods style last)) e.0 written ≡ [] → ⊥
        some_written (Ok w) told none = some (ap (λ (x : ItemText). x.text) (piece_once k before e (record { text = w.0; is_finding = w.1 }) is told) ∙ none)
        some_written (Err why) told none = told

-- For what a run of `losses` wants memory, in the words of the definitions.
use Rattle.std.proofs.Common.{Some, ◌≡◌, ◌||◌, ℕ, suc, Bool, true, false, not, is_some, List, [], ◌∷◌, map, if◌then◌else◌, inl, inr, ap, refl, ◌∙◌, sym}
use Rattle.std.specs.Prelude.{slice_get}
use Rattle.std.specs.List.{list_any}
use Rattle.std.proofs.lemmas.Bool.{false≢true, not-true, or_cases}
use Rattle.list_core.specs.declared.event.Event.{Event}
use Rattle.engine_core.specs.declared.style.Style.{Style}
use Rattle.loss_engine.specs.LossText.{ShowsNew}
use Rattle.loss_engine.specs.LossWants.{ArePiecesOf}
use Rattle.loss_engine.specs.Sights.{Key, Sight, same_key}
use Rattle.loss_core.specs.Periods.{ArePeriods, Period}
use Rattle.loss_engine.specs.computed.Tracking.{Kept, Tracked, kept_none, known_of, pieces_by, shows_new, sights_by}
use Rattle.loss_engine.proofs.LossLaws.{Follows, pieces_sizes, pieces_tell_all, sights_there}

-- ---- a key that is not tracked was not shown

known_is : (xs : List Tracked) (key : Key) → is_some (known_of xs key) ≡ list_any (λ k. same_key k key) (map (λ (x : Tracked). x.key) xs)
known_is [] key = refl
known_is (x ∷ xs) key =
    elim (same_key x.key key) as (λ b. is_some (if b then Some x.progress else known_of xs key) ≡ (b || list_any (λ k. same_key k key) (map (λ (y : Tracked). y.key) xs)))
    [ true ↦ refl | false ↦ known_is xs key ]

any_found : {X : Type 0} (test : X → Bool) (xs : List X) → list_any test xs ≡ true → (i : ℕ) × (x : X) × (slice_get xs i ≡ Some x) × (test x ≡ true)
any_found test [] h = absurd (false≢true h)
any_found test (x ∷ xs) h =
    elim (or_cases (test x) (list_any test xs) h) [
      | inl here ↦ (0, x, refl, here)
      | inr later ↦ let f = any_found test xs later in (suc f.0, f.1, f.2, f.3)
    ]

module _ {A : Type 0} (periods : List Period) (in_range : ArePeriods periods) where
  pub shown_new : (before : List (ℕ × Event A)) (k : Kept) (e : ℕ × Event A) → Follows periods before k → shows_new k.tracked (sights_by k e.1) ≡ true → ShowsNew before e
  shown_new before k e f h =
      let found = any_found (λ (s : Sight). not (is_some (known_of k.tracked s.key))) (sights_by k e.1) h in
      let s : Sight = found.1 in
      record {
        at = found.0;
        sight = s;
        is = ap (λ l. slice_get l found.0) (sym (sights_there periods in_range before k e f)) ∙ found.2;
        is_new = ap (list_any (λ j. same_key j s.key)) (sym f.stands.keys) ∙ (sym (known_is k.tracked s.key) ∙ not-true (is_some (known_of k.tracked s.key)) found.3);
      }

  pub are_pieces : (style : Style) (events : List (ℕ × Event A)) → ArePiecesOf periods style events (pieces_by periods style kept_none events)
  are_pieces style events = record { sizes = pieces_sizes periods in_range style events kept_none; each = λ i e w p q. pieces_tell_all periods in_range style events i e w p q }

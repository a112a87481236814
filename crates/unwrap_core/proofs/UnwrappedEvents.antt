-- Events that are changed, one after another.
use Rattle.std.proofs.Common.{◌≡◌, ◌∙◌, ℕ, List, [], ◌∷◌, map, Some, None, Ok, Err, refl, sym, ap, ap₂, subst}
use Rattle.list_core.specs.declared.event.Event.{Event}
use Rattle.list_core.specs.declared.event.EventKind.{EventKind}
use Rattle.list_core.specs.declared.event.EventKind.TheVariants.{Frame}
use Rattle.list_core.specs.ReadItems.{AnswerOf, Gave}
use Rattle.unwrap_core.specs.UnwrapEvents.{UnwrapsEach, change_answer, change_numbered, under, unwrap_event, unwrap_kind}
use Rattle.unwrap_core.specs.declared.unwrap.Changes.{Changes}
use Rattle.unwrap_core.specs.declared.unwrap.Unwrap.{Unwrap}
use Rattle.unwrap_core.specs.Unwrapped.{tag_in}
use Rattle.unwrap_core.proofs.UnwrappedLaws.{left_alone}

-- an answer that has an event was made of one
made_some : {A F : Type 0} (changes : Changes) (raw : AnswerOf (Event A) F) (e : ℕ × Event A) → Ok (Some e) ≡ change_answer changes raw → (r : ℕ × Event A) × (raw ≡ Ok (Some r)) × (e ≡ change_numbered changes r)
made_some changes (Ok (Some r)) e h = (r, refl, cc)
made_some changes (Ok None) e h = absurd (cc)
made_some changes (Err f) e h = absurd (cc)

module _ {I A F : Type 0} (answers : I → AnswerOf (Event A) F → I → Type 0) where
  -- these events came of the reader beneath, and were changed
  abbrev Came : Changes → Unwrap I → Unwrap I → List (ℕ × Event A) → Type 0
  Came changes start end es = (given : List (ℕ × Event A)) × Gave answers (under start) given (under end) × (es ≡ map (change_numbered changes) given) × (end.changes ≡ changes)

  came_so : (changes : Changes) (start end : Unwrap I) (es : List (ℕ × Event A)) → start.changes ≡ changes → Gave (UnwrapsEach answers) start es end → Came changes start end es
  unfolding Gave
  came_so changes start end [] is same = ([], ap (λ (s : Unwrap I). under s) same, refl, sym (ap (λ (s : Unwrap I). s.changes) same) ∙ is)
  came_so changes start end (e ∷ es) is (next, each, gave) =
      let one = made_some start.changes each.given e each.made in
      let rest = came_so changes next end es (each.stays ∙ is) gave in (
        one.0 ∷ rest.0,
        (under next, subst (λ (x : AnswerOf (Event A) F). answers (under start) x (under next)) one.1 each.read, rest.1),
        ap₂ (λ (x : ℕ × Event A) (xs : List (ℕ × Event A)). x ∷ xs) (subst (λ (c : Changes). e ≡ change_numbered c one.0) is one.2) rest.2,
        rest.3,
      )

  pub unwraps_what_came : (start end : Unwrap I) (es : List (ℕ × Event A)) → Gave (UnwrapsEach answers) start es end → Came start.changes start end es
  unwraps_what_came start end es gave = came_so start.changes start end es refl gave

-- an event whose frame has no tag to take out is left as it is
pub event_alone : {A : Type 0} (e : Event A) (o : List ℕ) → e.kind ≡ Frame o → tag_in o ≡ None → unwrap_event e ≡ e
event_alone {A} e o is none = ap (λ (k : EventKind A). record { moment = e.moment; kind = k }) (ap unwrap_kind is ∙ ap (λ (x : List ℕ). Frame x) (left_alone o none) ∙ sym is)

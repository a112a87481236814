-- What an engine wrote of events behind their dates, without them.
use Rattle.std.proofs.Common.{◌≡◌, ℕ, suc, Bool, List, [], ◌∷◌, ◌++◌, ap, sym, ◌∙◌, refl, arith}
use Rattle.std.specs.Prelude.{◌||◌, All}
use Rattle.std.proofs.lemmas.List.{append_assoc}
use Rattle.list_core.specs.declared.event.Event.{Event}
use Rattle.engine_core.specs.Dated.{without_dates}
use Rattle.engine_core.specs.DatedLaws.{DatedAsPlain, IsLines}
use Rattle.engine_core.specs.EngineText.{ItemText, has_finding, joined_texts}
use Rattle.engine_core.specs.EventsText.{EventText, IsDated, exactly_event, over_allowed}
use Rattle.engine_core.proofs.DatesAway.{first_away}
use Rattle.engine_core.proofs.ItemTexts.{AreNext, are_next, are_texts}

module _ {A F : Type 0} (C : Type 0) (text : EventText A) (last_line : F → List ℕ) where
  -- the texts of items that follow others, without dates
  record Plain (before items : List (ℕ × Event A)) (texts : List ItemText) : Type 0 where
    plain : List ItemText
    are : AreNext (over_allowed {C = C} (exactly_event text) last_line) before items plain
    finds : has_finding plain ≡ has_finding texts
    away : All (λ w. IsLines w.text) plain → (rest : List ℕ) → without_dates (joined_texts texts ++ rest) ≡ joined_texts plain ++ without_dates rest

  plain_next : (before items : List (ℕ × Event A)) (texts : List ItemText) → AreNext (over_allowed {C = C} (IsDated (exactly_event text)) last_line) before items texts → Plain before items texts
  plain_next before [] [] are = record { plain = []; are = tt; finds = refl; away = λ lines rest. refl }
  plain_next before (e ∷ es) (w ∷ ws) are =
      let others = plain_next (before ++ e ∷ []) es ws are.1 in
      let first : ItemText = record { text = are.0.text; is_finding = w.is_finding } in
      record {
        plain = first ∷ others.plain;
        are = (are.0.is_allowed, others.are);
        finds = ap (λ (found : Bool). w.is_finding || found) others.finds;
        away = λ lines rest.
            ap without_dates (append_assoc w.text (joined_texts ws) rest)
            ∙ ap (λ (l : List ℕ). without_dates (l ++ (joined_texts ws ++ rest))) are.0.is_dated
            ∙ first_away e.1.moment are.0.text (joined_texts ws ++ rest) (lines 0 first (omega arith))
            ∙ ap (λ (l : List ℕ). are.0.text ++ l) (others.away (λ k d h. lines (suc k) d (omega arith)) rest)
            ∙ sym (append_assoc are.0.text (joined_texts others.plain) (without_dates rest));
      }
  plain_next before [] (w ∷ ws) are = absurd are
  plain_next before (e ∷ es) [] are = absurd are

pub dated_as_plain : {A C F : Type 0} → DatedAsPlain A C F
dated_as_plain {A} {C} {F} text last_line items texts are =
    let p = plain_next C text last_line [] items texts (are_next (over_allowed {C = C} (IsDated (exactly_event text)) last_line) [] items texts are.one_each are.each) in
    record { plain = p.plain; are_texts = are_texts _ items p.plain p.are; finds = p.finds; dates_go = p.away }

-- What is written of items, one after another, and what is told of a whole list.
use Rattle.std.proofs.Common.{◌≡◌, ℕ, zero, suc, Bool, true, false, List, [], ◌∷◌, ◌++◌, length, take, Some, Ok, ap, sym, ◌∙◌, refl, subst, arith}
use Rattle.std.specs.Prelude.{◌||◌, ⊤, slice_get}
use Rattle.std.proofs.lemmas.List.{append_assoc, append-nil}
use Rattle.list_core.specs.declared.line_rules.ItemFault.{ItemFault}
use Rattle.list_core.specs.Lines.{Stop}
use Rattle.engine_core.specs.EngineText.{Allowed, Text, ItemText, AreAllowedTexts, AreItemTexts, exactly, has_finding, joined_texts}
use Rattle.engine_core.specs.computed.WholeText.{Account, told_after, put_step}

-- what is told, behind these texts
abbrev pub behind : {C : Type 0} → List ItemText → Account C → Account C
behind texts o = record { text = joined_texts texts ++ o.text; found = has_finding texts || o.found; stop = o.stop }

pub or_assoc : (a b c : Bool) → (a || (b || c)) ≡ ((a || b) || c)
or_assoc true b c = refl
or_assoc false b c = refl

pub or_false : (b : Bool) → (b || false) ≡ b
or_false true = refl
or_false false = refl

same_told : {C : Type 0} (x y : List ℕ) (f g : Bool) (s : Stop (ItemFault C)) → x ≡ y → f ≡ g → ◌≡◌ {A = Account C} (record { text = x; found = f; stop = s }) (record { text = y; found = g; stop = s })
same_told x y f g s e h = rw (e, h) refl

module _ {X C F : Type 0} (t : Allowed X C F) where
  -- what is written of items that follow others
  abbrev pub AreNext : List (ℕ × X) → List (ℕ × X) → List ItemText → Type 0
  AreNext before [] [] = ⊤
  AreNext before (e ∷ es) (w ∷ ws) = t.of_item before e (Ok (w.text, w.is_finding)) × AreNext (before ++ e ∷ []) es ws
  AreNext before [] (w ∷ ws) = ⊥
  AreNext before (e ∷ es) [] = ⊥

  -- an item more
  pub next_push : (before es : List (ℕ × X)) (ws : List ItemText) (e : ℕ × X) (w : ItemText) → AreNext before es ws → t.of_item (before ++ es) e (Ok (w.text, w.is_finding)) →
      AreNext before (es ++ e ∷ []) (ws ++ w ∷ [])
  next_push before [] [] e w are s = (subst (λ b. t.of_item b e (Ok (w.text, w.is_finding))) (append-nil before) s, tt)
  next_push before (x ∷ es) (v ∷ ws) e w are s =
      (are.0, next_push (before ++ x ∷ []) es ws e w are.1 (subst (λ b. t.of_item b e (Ok (w.text, w.is_finding))) (sym (append_assoc before (x ∷ []) es)) s))
  next_push before [] (v ∷ ws) e w are s = absurd are
  next_push before (x ∷ es) [] e w are s = absurd are

  sizes : (before es : List (ℕ × X)) (ws : List ItemText) → AreNext before es ws → length ws ≡ length es
  sizes before [] [] are = refl
  sizes before (x ∷ es) (v ∷ ws) are = ap suc (sizes (before ++ x ∷ []) es ws are.1)
  sizes before [] (v ∷ ws) are = absurd are
  sizes before (x ∷ es) [] are = absurd are

  each_next : (before es : List (ℕ × X)) (ws : List ItemText) → AreNext before es ws → (i : ℕ) (e : ℕ × X) (w : ItemText) → slice_get es i ≡ Some e → slice_get ws i ≡ Some w →
      t.of_item (before ++ take i es) e (Ok (w.text, w.is_finding))
  each_next before [] ws are i e w h g = absurd (cc)
  each_next before (x ∷ es) [] are i e w h g = absurd are
  each_next before (x ∷ es) (v ∷ ws) are zero e w h g =
      let item : x ≡ e = cc in
      let text : v ≡ w = cc in
      rw (append-nil before, sym item, sym text) are.0
  each_next before (x ∷ es) (v ∷ ws) are (suc i) e w h g =
      subst (λ b. t.of_item b e (Ok (w.text, w.is_finding))) (append_assoc before (x ∷ []) (take i es)) (each_next (before ++ x ∷ []) es ws are.1 i e w h g)

  pub are_texts : (es : List (ℕ × X)) (ws : List ItemText) → AreNext [] es ws → AreAllowedTexts t es ws
  are_texts es ws are = record { one_each = sizes [] es ws are; each = each_next [] es ws are }

  pub are_next : (before es : List (ℕ × X)) (ws : List ItemText) → length ws ≡ length es →
      ((i : ℕ) (e : ℕ × X) (w : ItemText) → slice_get es i ≡ Some e → slice_get ws i ≡ Some w → t.of_item (before ++ take i es) e (Ok (w.text, w.is_finding))) → AreNext before es ws
  are_next before [] [] same each = tt
  are_next before (x ∷ es) (v ∷ ws) same each = (
    subst (λ b. t.of_item b x (Ok (v.text, v.is_finding))) (append-nil before) (each 0 x v refl refl),
    are_next (before ++ x ∷ []) es ws (omega (arith, same))
        (λ i e w h g. subst (λ b. t.of_item b e (Ok (w.text, w.is_finding))) (sym (append_assoc before (x ∷ []) (take i es))) (each (suc i) e w h g)),
  )
  are_next before [] (v ∷ ws) same each = absurd (omega (arith, same))
  are_next before (x ∷ es) [] same each = absurd (omega (arith, same))

module _ {X C : Type 0} (t : Text X C) where
  told_next : (before es : List (ℕ × X)) (ws : List ItemText) (rest : List (ℕ × X)) (stop : Stop (ItemFault C)) → AreNext (exactly t) before es ws →
      told_after t before (es ++ rest) stop ≡ behind ws (told_after t (before ++ es) rest stop)
  unfolding told_after
  told_next before [] [] rest stop are = ap (λ l. told_after t l rest stop) (sym (append-nil before))
  told_next before (e ∷ es) (w ∷ ws) rest stop are =
      let o = told_after t ((before ++ e ∷ []) ++ es) rest stop in
      ap (λ s. put_step t e.0 s (told_after t (before ++ e ∷ []) (es ++ rest) stop)) are.0
      ∙ ap (put_step t e.0 (Ok (w.text, w.is_finding))) (told_next (before ++ e ∷ []) es ws rest stop are.1)
      ∙ same_told _ _ _ _ o.stop (sym (append_assoc w.text (joined_texts ws) o.text)) (or_assoc w.is_finding (has_finding ws) o.found)
      ∙ ap (λ l. behind (w ∷ ws) (told_after t l rest stop)) (append_assoc before (e ∷ []) es)
  told_next before [] (w ∷ ws) rest stop are = absurd are
  told_next before (e ∷ es) [] rest stop are = absurd are

  -- what is told of a list is the texts of items in front of it, and then what is told of the rest
  pub told_behind : (es : List (ℕ × X)) (ws : List ItemText) (rest : List (ℕ × X)) (stop : Stop (ItemFault C)) → AreItemTexts t es ws →
      told_after t [] (es ++ rest) stop ≡ behind ws (told_after t es rest stop)
  told_behind es ws rest stop are = told_next [] es ws rest stop (are_next (exactly t) [] es ws are.one_each are.each)

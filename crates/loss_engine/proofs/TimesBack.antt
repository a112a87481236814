-- Time goes back by what is kept exactly where the definitions say so, and by one number.
use Rattle.std.proofs.Common.{Option, Some, None, ◌≡◌, ◌⊎◌, ℕ, ◌+◌, ◌-◌, Bool, true, false, List, [], ◌∷◌, ◌++◌, length, inl, inr, ap, refl, ◌∙◌, sym, subst, arith}
use Rattle.std.proofs.lemmas.Bool.{false≢true}
use Rattle.std.proofs.lemmas.List.{length_push}
use Rattle.list_core.specs.declared.event.Event.{Event}
use Rattle.loss_engine.specs.Sights.{greatest_moment}
use Rattle.loss_engine.specs.TimeBack.{GoesBack, TellsBack, is_far_back, is_far_below}
use Rattle.loss_engine.specs.computed.Tracking.{Kept, back_by, back_where}

-- lists with one more at their ends are one where the lists are and what came last is
push_same : {X : Type 0} (xs ys : List X) (x y : X) → xs ++ x ∷ [] ≡ ys ++ y ∷ [] → (xs ≡ ys) × (x ≡ y)
push_same [] [] x y e = (refl, cc)
push_same [] (b ∷ ys) x y e =
    let sizes : length (x ∷ []) ≡ length (b ∷ (ys ++ y ∷ [])) = ap length e in
    let more : length (ys ++ y ∷ []) ≡ length ys + 1 = length_push ys y in
    absurd (omega arith)
push_same (a ∷ xs) [] x y e =
    let sizes : length (a ∷ (xs ++ x ∷ [])) ≡ length (y ∷ []) = ap length e in
    let more : length (xs ++ x ∷ []) ≡ length xs + 1 = length_push xs x in
    absurd (omega arith)
push_same (a ∷ xs) (b ∷ ys) x y e =
    let first : a ≡ b = cc in
    let rest : xs ++ x ∷ [] ≡ ys ++ y ∷ [] = cc in
    let r = push_same xs ys x y rest in
    (let same = r.0 in cc, r.1)

-- whether the last of events was far back; where there is none, it was not
abbrev pub IsBack : {A : Type 0} → List (ℕ × Event A) → Bool → Type 0
IsBack {A} before back = ((before ≡ []) × (back ≡ false)) ⊎ ((earlier : List (ℕ × Event A)) × (last : ℕ × Event A) × (before ≡ earlier ++ last ∷ []) × (back ≡ is_far_back earlier last))

module _ {A : Type 0} (before : List (ℕ × Event A)) (e : ℕ × Event A) where
  -- what was said of the last event is so of each event that is the last
  none_back : IsBack before false → (earlier : List (ℕ × Event A)) (last : ℕ × Event A) → before ≡ earlier ++ last ∷ [] → is_far_back earlier last ≡ false
  none_back (inl none) earlier last is =
      let sizes : 0 ≡ length (earlier ++ last ∷ []) = ap length (sym none.0 ∙ is) in
      let more : length (earlier ++ last ∷ []) ≡ length earlier + 1 = length_push earlier last in
      absurd (omega arith)
  none_back (inr w) earlier last is =
      let same = push_same w.0 earlier w.1 last (sym w.2 ∙ is) in
      subst (λ x. is_far_back earlier x ≡ false) same.1 (subst (λ l. is_far_back l w.1 ≡ false) same.0 (sym w.3))

  some_back : IsBack before true → (by : ℕ) → GoesBack before e by → ⊥
  some_back (inl none) by g = false≢true (sym none.1)
  some_back (inr w) by g = false≢true (sym (g.is_first w.0 w.1 w.2) ∙ sym w.3)

  back_so : (far was : Bool) (by : ℕ) → far ≡ is_far_back before e → by ≡ greatest_moment before - e.1.moment → IsBack before was → TellsBack before e (back_where far was by)
  back_so false was by f b is = λ n g. false≢true (f ∙ g.is_far)
  back_so true true by f b is = some_back is
  back_so true false by f b is = record { is_far = sym f; is_by = b; is_first = none_back is }

  pub tells_back : (k : Kept) → k.moment ≡ greatest_moment before → IsBack before k.is_back → TellsBack before e (back_by k e.1.moment)
  tells_back k same is =
      back_so (is_far_below k.moment e.1.moment) k.is_back (k.moment - e.1.moment) (ap (λ n. is_far_below n e.1.moment) same) (ap (λ n. n - e.1.moment) same) is

  -- by how much is told is one
  pub back_once : (a b : Option ℕ) → TellsBack before e a → TellsBack before e b → a ≡ b
  back_once None None u v = refl
  back_once None (Some y) u v = absurd (u y v)
  back_once (Some x) None u v = absurd (v x u)
  back_once (Some x) (Some y) u v = ap Some (u.is_by ∙ sym v.is_by)

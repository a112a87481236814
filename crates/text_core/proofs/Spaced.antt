-- Texts divided by one space.
use Rattle.std.proofs.Common.{◌≡◌, ℕ, List, [], ◌∷◌, ◌++◌, ap, refl, sym, ◌∙◌, Result}
use Rattle.std.specs.List.{flat_map}
use Rattle.std.proofs.lemmas.List.{append-nil}
use Rattle.text_core.specs.Pieces.{AppendsText, after_space, spaced}
use Rattle.text_core.proofs.Fronts.{then_appended}
use Rattle.text_core.proofs.PieceLemmas.{then_text}

module _ {X : Type 0} (text : X → List ℕ) where
  -- the first text, and then each other with a space before it
  pub spaced-first : (x : X) (xs : List X) → spaced text (x ∷ xs) ≡ text x ++ flat_map (after_space text) xs
  spaced-first x [] = sym (append-nil (text x))
  spaced-first x (y ∷ xs) = ap (λ (l : List ℕ). text x ++ 32 ∷ l) (spaced-first y xs)

  -- a sign and the first text were written, then the others, and then another sign
  pub between-written : (before after : ℕ) (o a b c : List ℕ) (x : X) (xs all : List X) → all ≡ x ∷ xs → a ≡ o ++ before ∷ text x
      → b ≡ a ++ flat_map (after_space text) xs → c ≡ b ++ after ∷ [] → c ≡ o ++ before ∷ (spaced text all ++ after ∷ [])
  between-written before after o a b c x xs all e p q r =
      let front = then_text o (before ∷ text x) (flat_map (after_space text) xs) (before ∷ (text x ++ flat_map (after_space text) xs)) a b p q refl in
      then_text o (before ∷ (text x ++ flat_map (after_space text) xs)) (after ∷ []) (before ∷ (spaced text all ++ after ∷ [])) b c front r
      (ap (λ (l : List ℕ). before ∷ (l ++ after ∷ [])) (sym (spaced-first x xs) ∙ ap (spaced text) (sym e)))

  -- the first text was written, and then the others
  pub spaced-written : {T E : Type 0} (r : Result T E) (o a b : List ℕ) (x : X) (xs all : List X) → all ≡ x ∷ xs → a ≡ o ++ text x
      → AppendsText r a b (flat_map (after_space text) xs) → AppendsText r o b (spaced text all)
  spaced-written r o a b x xs all e p q = then_appended r o a b (text x) (flat_map (after_space text) xs) (spaced text all) p q (sym (spaced-first x xs) ∙ ap (spaced text) (sym e))

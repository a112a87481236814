-- Texts written one after another, each before a space, of which the last gives way to a bracket.
use Rattle.std.proofs.Common.{◌≡◌, ℕ, ◌<◌, List, [], ◌∷◌, ◌++◌, length, ap, ap₂, refl, sym, ◌∙◌, append_assoc, arith, Result}
use Rattle.std.specs.Prelude.{codes}
use Rattle.std.specs.List.{flat_map}
use Rattle.std.proofs.lemmas.List.{append-nil}
use Rattle.text_core.specs.Pieces.{AppendsText, spaced}
use Rattle.text_core.proofs.Fronts.{then_appended}
use Rattle.frame_engines.specs.SampledText.{before_space}

module _ {X : Type 0} (text : X → List ℕ) where
  -- one more was written, and the others are left
  pub one_spaced : (old new all : List ℕ) (x : X) (before xs : List X) → before ≡ x ∷ xs → old ++ flat_map (before_space text) before ≡ all
      → new ≡ old ++ (text x ++ codes " ") → new ++ flat_map (before_space text) xs ≡ all
  one_spaced old new all x before xs first so_far one =
      ap (λ (l : List ℕ). l ++ flat_map (before_space text) xs) one ∙ append_assoc old (text x ++ codes " ") (flat_map (before_space text) xs)
      ∙ ap (λ (ys : List X). old ++ flat_map (before_space text) ys) (sym first) ∙ so_far

  -- none is left
  pub none_left : (new all : List ℕ) (left : List X) → left ≡ [] → new ++ flat_map (before_space text) left ≡ all → new ≡ all
  none_left new all left none so_far = sym (append-nil new) ∙ ap (λ (ys : List X). new ++ flat_map (before_space text) ys) (sym none) ∙ so_far

  -- they are the texts divided by one space, and a space
  spaced_last : (x : X) (xs : List X) → flat_map (before_space text) (x ∷ xs) ≡ spaced text (x ∷ xs) ++ 32 ∷ []
  spaced_last x [] = append-nil (text x ++ 32 ∷ [])
  spaced_last x (y ∷ ys) =
      let others = spaced text (y ∷ ys) in
      ap (λ (l : List ℕ). (text x ++ 32 ∷ []) ++ l) (spaced_last y ys) ∙ append_assoc (text x) (32 ∷ []) (others ++ 32 ∷ []) ∙ sym (append_assoc (text x) (32 ∷ others) (32 ∷ []))

  -- a bracket took the place of the last space
  pub in_brackets : {T E : Type 0} (r : Result T E) (xs : List X) (count : ℕ) (o a b new : List ℕ) → count ≡ length xs → a ≡ o ++ codes " {" → b ≡ a ++ flat_map (before_space text) xs
      → (count ≡ 0 → AppendsText r b new (codes "}")) → (0 < count → (front : List ℕ) → b ≡ front ++ codes " " → AppendsText r front new (codes "}")) → AppendsText r o new (32 ∷ 123 ∷ spaced text xs ++ 125 ∷ [])
  in_brackets r [] count o a b new counted p q none some =
      let same : b ≡ o ++ codes " {" = q ∙ append-nil a ∙ p in
      then_appended r o b new (codes " {") (codes "}") (32 ∷ 123 ∷ 125 ∷ []) same (none counted) refl
  in_brackets r (x ∷ xs) count o a b new counted p q none some =
      let front = o ++ 32 ∷ 123 ∷ spaced text (x ∷ xs) in
      let ends : b ≡ front ++ codes " " =
      q ∙ ap₂ (λ (i j : List ℕ). i ++ j) p (spaced_last x xs) ∙ append_assoc o (codes " {") (spaced text (x ∷ xs) ++ 32 ∷ []) ∙ sym (append_assoc o (32 ∷ 123 ∷ spaced text (x ∷ xs)) (32 ∷ [])) in
      then_appended r o front new (32 ∷ 123 ∷ spaced text (x ∷ xs)) (codes "}") (32 ∷ 123 ∷ spaced text (x ∷ xs) ++ 125 ∷ []) refl (some (omega (arith, counted)) front ends) refl

-- A text that is put together from its end, piece by piece.
use Rattle.std.proofs.Common.{◌≡◌, ℕ, List, [], ◌∷◌, ◌++◌, sym, subst, ◌∙◌, append_assoc, Result}
use Rattle.std.specs.List.{concat}
use Rattle.text_core.specs.Pieces.{AppendsText}
use Rattle.text_core.proofs.PieceLemmas.{before}

-- the text is these pieces: each was put in front of those behind it, at once or a value and then its name
pub data Fronts : List ℕ → List (List ℕ) → Type 0 where
  none : {text : List ℕ} → text ≡ [] → Fronts text []
  front : {text behind : List ℕ} {xs : List (List ℕ)} (x : List ℕ) → text ≡ x ++ behind → Fronts behind xs → Fronts text (x ∷ xs)
  field : {text valued behind : List ℕ} {xs : List (List ℕ)} (name value : List ℕ) → text ≡ name ++ valued → valued ≡ value ++ behind → Fronts behind xs → Fronts text ((name ++ value) ∷ xs)

pub fronts_text : {text : List ℕ} {xs : List (List ℕ)} → Fronts text xs → text ≡ concat xs
fronts_text (none p) = p
fronts_text (front x p q) = before x p (fronts_text q)
fronts_text (field {xs = xs} name value p q r) = before name p (before value q (fronts_text r)) ∙ sym (append_assoc name value (concat xs))

-- it was appended
pub fronts_appended : {T E : Type 0} (r : Result T E) (old new text : List ℕ) (xs : List (List ℕ)) → Fronts text xs → AppendsText r old new text → AppendsText r old new (concat xs)
fronts_appended r old new text xs fronts appends = subst (λ (l : List ℕ). AppendsText r old new l) (fronts_text fronts) appends

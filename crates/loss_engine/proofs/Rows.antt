-- Texts that are appended in turn, and findings that are there.
use Rattle.std.proofs.Common.{◌≡◌, ◌<◌, ℕ, zero, suc, Option, arith, get_or, length, List, [], ◌∷◌, ◌++◌, append-nil, subst, sym, Result}
use Rattle.std.specs.List.{concat}
use Rattle.text_core.specs.Pieces.{AppendsText}
use Rattle.text_core.proofs.Fronts.{row_then}
use Rattle.text_core.proofs.PieceLemmas.{Chain}
use Rattle.std.specs.Prelude.{option_to_list}
use Rattle.list_core.proofs.Emptiness.{back_nil, front_nil}
use Rattle.loss_core.specs.declared.finding.Finding.{Finding}
use Rattle.loss_core.specs.computed.Given.{given}

-- several texts were appended, and then the last one
pub row_last : {T E : Type 0} (r : Result T E) (old mid new : List ℕ) (xs : List (List ℕ)) (y : List ℕ) → Chain mid old xs → AppendsText r mid new y → AppendsText r old new (concat (xs ++ y ∷ []))
row_last r old mid new xs y texts last = row_then r old mid new xs (y ∷ []) texts (subst (λ (t : List ℕ). AppendsText r mid new t) (sym (append-nil y)) last)

-- where no finding is there, there is none at a place
pub none_at : (findings : List (Option Finding)) (i : ℕ) (d : Option Finding) → i < length findings → given findings ≡ [] → option_to_list (get_or findings i d) ≡ []
none_at [] i d within e = absurd (omega arith)
none_at (f ∷ findings) zero d within e = front_nil (option_to_list f) (given findings) e
none_at (f ∷ findings) (suc i) d within e = none_at findings i d (omega arith) (back_nil (option_to_list f) (given findings) e)

-- The line of an object: what it begins with, each further field, and its end.
use Rattle.std.proofs.Common.{◌≡◌, ℕ, List, [], ◌∷◌, ◌++◌, map, ap, sym, ◌∙◌, append_assoc, Result}
use Rattle.std.proofs.lemmas.List.{map-append}
use Rattle.std.specs.Prelude.{codes}
use Rattle.std.specs.List.{concat}
use Rattle.text_core.specs.Pieces.{AppendsText}
use Rattle.text_core.proofs.Fronts.{then_appended}
use Rattle.text_core.proofs.PieceLemmas.{concat-append}
use Rattle.object_core.specs.Objects.{Field, object_line, opened}
use Rattle.object_core.specs.Onward.{next_field, onward}
use Rattle.object_core.proofs.ObjectParts.{opened_more}

pub onward-append : (fs gs : List Field) → onward (fs ++ gs) ≡ onward fs ++ onward gs
onward-append fs gs = ap concat (map-append next_field fs gs) ∙ concat-append (map next_field fs) (map next_field gs)

-- an object as what it begins with, the fields behind that, and its end
pub line_parts : (f : Field) (fs gs : List Field) → object_line ((f ∷ fs) ++ gs) ≡ opened (f ∷ fs) ++ (onward gs ++ codes "}\n")
line_parts f fs gs =
    append_assoc (opened ((f ∷ fs) ++ gs)) (125 ∷ []) (10 ∷ []) ∙ ap (λ (l : List ℕ). l ++ codes "}\n") (opened_more f fs gs)
    ∙ append_assoc (opened (f ∷ fs)) (onward gs) (codes "}\n")

-- what an object begins with was appended, and then fields and its end
pub ended : {T E : Type 0} (r : Result T E) (old mid new : List ℕ) (f : Field) (fs gs hs : List Field) → mid ≡ old ++ (opened (f ∷ fs) ++ onward gs) → AppendsText r mid new (onward hs ++ codes "}\n")
    → AppendsText r old new (object_line ((f ∷ fs) ++ (gs ++ hs)))
ended r old mid new f fs gs hs p q =
    then_appended r old mid new (opened (f ∷ fs) ++ onward gs) (onward hs ++ codes "}\n") (object_line ((f ∷ fs) ++ (gs ++ hs))) p q
    (append_assoc (opened (f ∷ fs)) (onward gs) (onward hs ++ codes "}\n")
    ∙ ap (λ (l : List ℕ). opened (f ∷ fs) ++ l) (sym (append_assoc (onward gs) (onward hs) (codes "}\n")) ∙ ap (λ (l : List ℕ). l ++ codes "}\n") (sym (onward-append gs hs)))
    ∙ sym (line_parts f fs (gs ++ hs)))

-- what an object begins with and fields were appended, and then its end
pub closed : {T E : Type 0} (r : Result T E) (old mid new : List ℕ) (f : Field) (fs gs : List Field) → mid ≡ old ++ (opened (f ∷ fs) ++ onward gs) → AppendsText r mid new (codes "}\n")
    → AppendsText r old new (object_line ((f ∷ fs) ++ gs))
closed r old mid new f fs gs p q =
    then_appended r old mid new (opened (f ∷ fs) ++ onward gs) (codes "}\n") (object_line ((f ∷ fs) ++ gs)) p q
    (append_assoc (opened (f ∷ fs)) (onward gs) (codes "}\n") ∙ sym (line_parts f fs gs))

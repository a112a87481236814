-- The text of an object, as its fields are appended.
use Rattle.std.proofs.Common.{◌≡◌, ℕ, List, [], ◌∷◌, ◌++◌, map, ap, sym, ◌∙◌, append_assoc, Result}
use Rattle.std.specs.Prelude.{codes}
use Rattle.std.specs.List.{concat, flat_map, join_with_byte}
use Rattle.std.proofs.lemmas.List.{append-nil, map-append}
use Rattle.text_core.specs.Pieces.{AppendsText}
use Rattle.text_core.proofs.Fronts.{then_appended}
use Rattle.text_core.proofs.PieceLemmas.{concat-append}
use Rattle.object_core.specs.Objects.{Field, field_text, object, object_line, opened}
use Rattle.frame_engines.specs.computed.ObjectFields.{after_comma, next_field, next_fields}

pub next_fields-append : (fs gs : List Field) → next_fields (fs ++ gs) ≡ next_fields fs ++ next_fields gs
next_fields-append fs gs = ap concat (map-append next_field fs gs) ∙ concat-append (map next_field fs) (map next_field gs)

pub joined_fields : (f : Field) (fs : List Field) → join_with_byte 44 (map field_text (f ∷ fs)) ≡ field_text f ++ next_fields fs
joined_fields f [] = sym (append-nil (field_text f))
joined_fields f (g ∷ fs) = ap (λ (l : List ℕ). field_text f ++ 44 ∷ l) (joined_fields g fs)

-- an open object, with more fields
pub opened_more : (f : Field) (fs gs : List Field) → opened (f ∷ (fs ++ gs)) ≡ opened (f ∷ fs) ++ next_fields gs
opened_more f fs gs =
    ap (λ (l : List ℕ). 123 ∷ l) (joined_fields f (fs ++ gs) ∙ ap (λ (l : List ℕ). field_text f ++ l) (next_fields-append fs gs) ∙ sym (append_assoc (field_text f) (next_fields fs) (next_fields gs)))
    ∙ ap (λ (l : List ℕ). 123 ∷ (l ++ next_fields gs)) (sym (joined_fields f fs))

-- a text behind four others
behind_four : (x a b d e : List ℕ) → (x ++ (a ++ (b ++ d))) ++ e ≡ x ++ (a ++ (b ++ (d ++ e)))
behind_four x a b d e = simp append_assoc

-- an object whose fields are appended in four parts, the first of them as it is opened
pub four_parts : (f : Field) (fs gs hs is : List Field) (end : List ℕ)
    → opened (f ∷ fs) ++ (next_fields gs ++ (next_fields hs ++ (next_fields is ++ end))) ≡ opened (f ∷ (fs ++ (gs ++ (hs ++ is)))) ++ end
four_parts f fs gs hs is end =
    sym (ap (λ (l : List ℕ). l ++ end) (opened_more f fs (gs ++ (hs ++ is)) ∙ ap (λ (l : List ℕ). opened (f ∷ fs) ++ l)
    (next_fields-append gs (hs ++ is) ∙ ap (λ (l : List ℕ). next_fields gs ++ l) (next_fields-append hs is)))
    ∙ behind_four (opened (f ∷ fs)) (next_fields gs) (next_fields hs) (next_fields is) end)

-- the end of an object and of its line
pub line_end : (fields : List Field) → opened fields ++ codes "}\n" ≡ object_line fields
line_end fields = sym (append_assoc (opened fields) (codes "}") (codes "\n"))

-- an open object, one field more, and the end of its line
pub one_more : (f : Field) (fs : List Field) (g : Field) → opened (f ∷ fs) ++ (next_field g ++ codes "}\n") ≡ object_line (f ∷ (fs ++ g ∷ []))
one_more f fs g =
    sym (append_assoc (opened (f ∷ fs)) (next_field g) (codes "}\n"))
    ∙ ap (λ (l : List ℕ). l ++ codes "}\n") (ap (λ (l : List ℕ). opened (f ∷ fs) ++ l) (sym (append-nil (next_field g))) ∙ sym (opened_more f fs (g ∷ [])))
    ∙ line_end (f ∷ (fs ++ g ∷ []))

-- an object as it is appended field by field, but for some of them at once
pub object_pieces : (f : Field) (fs gs hs : List Field)
    → concat ((123 ∷ field_text f) ∷ (map next_field fs ++ (next_fields gs ∷ (map next_field hs ++ codes "}" ∷ [])))) ≡ object (f ∷ (fs ++ (gs ++ hs)))
object_pieces f fs gs hs =
    let whole = joined_fields f (fs ++ (gs ++ hs)) ∙ ap (λ (l : List ℕ). field_text f ++ l) (next_fields-append fs (gs ++ hs) ∙ ap (λ (l : List ℕ). next_fields fs ++ l) (next_fields-append gs hs)) in
    let pieces = concat-append (map next_field fs) (next_fields gs ∷ (map next_field hs ++ codes "}" ∷ []))
    ∙ ap (λ (l : List ℕ). next_fields fs ++ (next_fields gs ++ l)) (concat-append (map next_field hs) (codes "}" ∷ [])) in
    ap (λ (l : List ℕ). 123 ∷ (field_text f ++ l)) pieces
    ∙ ap (λ (l : List ℕ). 123 ∷ l) (sym (behind_four (field_text f) (next_fields fs) (next_fields gs) (next_fields hs) (codes "}")))
    ∙ ap (λ (l : List ℕ). 123 ∷ (l ++ codes "}")) (sym whole)

-- a text behind the last of several
pub last_piece : (xs : List (List ℕ)) (l y : List ℕ) → concat (xs ++ l ∷ []) ++ y ≡ concat (xs ++ (l ++ y) ∷ [])
last_piece [] l y = ap (λ (z : List ℕ). z ++ y) (append-nil l) ∙ sym (append-nil (l ++ y))
last_piece (x ∷ xs) l y = append_assoc x (concat (xs ++ l ∷ [])) y ∙ ap (λ (z : List ℕ). x ++ z) (last_piece xs l y)

module _ {X : Type 0} (text : X → List ℕ) where
  -- the first text, and then each other behind a comma
  pub joined-first : (x : X) (xs : List X) → join_with_byte 44 (map text (x ∷ xs)) ≡ text x ++ flat_map (after_comma text) xs
  joined-first x [] = sym (append-nil (text x))
  joined-first x (y ∷ xs) = ap (λ (l : List ℕ). text x ++ 44 ∷ l) (joined-first y xs)

  -- the first text was written, and then the others
  pub joined-written : {T E : Type 0} (r : Result T E) (o a b : List ℕ) (x : X) (xs all : List X) → all ≡ x ∷ xs → a ≡ o ++ text x
      → AppendsText r a b (flat_map (after_comma text) xs) → AppendsText r o b (join_with_byte 44 (map text all))
  joined-written r o a b x xs all e p q =
      then_appended r o a b (text x) (flat_map (after_comma text) xs) (join_with_byte 44 (map text all)) p q (sym (joined-first x xs) ∙ ap (λ (l : List X). join_with_byte 44 (map text l)) (sym e))

-- a text in quotation marks in front of one that is known
pub in_quotes_before : {new old y : List ℕ} (x : List ℕ) → new ≡ x ++ old → old ≡ 34 ∷ y → new ≡ (x ++ 34 ∷ []) ++ y
in_quotes_before {y = y} x p q = p ∙ ap (λ (l : List ℕ). x ++ l) q ∙ sym (append_assoc x (34 ∷ []) y)

-- Objects and arrays as the texts that are appended one after the other.
use Rattle.std.proofs.Common.{◌≡◌, ℕ, List, [], ◌∷◌, ◌++◌, map, ap, refl, sym, ◌∙◌, append_assoc, append-nil, subst, Result}
use Rattle.std.specs.Prelude.{codes, flat_map}
use Rattle.std.specs.List.{concat, join_with_byte}
use Rattle.text_core.specs.Pieces.{AppendsText}
use Rattle.text_core.proofs.Fronts.{row_then}
use Rattle.text_core.proofs.PieceLemmas.{Chain, concat-append, row, then_text}
use Rattle.object_core.specs.Objects.{Field, array, field_text, in_quotes, object, object_line, opened}
use Rattle.object_core.specs.Onward.{next_field}
use Rattle.object_core.specs.MemberObject.{behind_comma}

-- the first text, and then each other behind a comma
pub joined : (text : List ℕ) (texts : List (List ℕ)) → join_with_byte 44 (text ∷ texts) ≡ text ++ flat_map behind_comma texts
joined text [] = sym (append-nil text)
joined text (next ∷ texts) = ap (λ (l : List ℕ). text ++ 44 ∷ l) (joined next texts)

joined_fields : (f : Field) (fs : List Field) → join_with_byte 44 (map field_text (f ∷ fs)) ≡ field_text f ++ concat (map next_field fs)
joined_fields f [] = sym (append-nil (field_text f))
joined_fields f (g ∷ fs) = ap (λ (l : List ℕ). field_text f ++ 44 ∷ l) (joined_fields g fs)

more_fields : (f : Field) (fs gs : List Field) → join_with_byte 44 (map field_text ((f ∷ fs) ++ gs)) ≡ join_with_byte 44 (map field_text (f ∷ fs)) ++ concat (map next_field gs)
more_fields f [] gs = joined_fields f gs
more_fields f (h ∷ fs) gs =
    ap (λ (l : List ℕ). field_text f ++ 44 ∷ l) (more_fields h fs gs)
    ∙ sym (append_assoc (field_text f) (44 ∷ join_with_byte 44 (map field_text (h ∷ fs))) (concat (map next_field gs)))

-- an open object, with more fields
pub opened_more : (f : Field) (fs gs : List Field) → opened ((f ∷ fs) ++ gs) ≡ opened (f ∷ fs) ++ concat (map next_field gs)
opened_more f fs gs = ap (λ (l : List ℕ). 123 ∷ l) (more_fields f fs gs)

-- the line of an object: what it begins with, more fields, and its end
pub line_parts : (f : Field) (fs gs : List Field) → object_line ((f ∷ fs) ++ gs) ≡ concat ((opened (f ∷ fs) ∷ map next_field gs) ++ codes "}\n" ∷ [])
line_parts f fs gs =
    let head = opened (f ∷ fs) in
    let rest = concat (map next_field gs) in
    ap (λ (l : List ℕ). (l ++ 125 ∷ []) ++ codes "\n") (opened_more f fs gs) ∙ append_assoc (head ++ rest) (125 ∷ []) (codes "\n") ∙ append_assoc head rest (codes "}\n")
    ∙ ap (λ (l : List ℕ). head ++ l) (sym (concat-append (map next_field gs) (codes "}\n" ∷ [])))

-- the line of an object was appended: what it begins with, more fields in their turn, and its end
pub line_done : {T E : Type 0} (r : Result T E) (old mid new : List ℕ) (f : Field) (fs gs : List Field) → Chain mid old (opened (f ∷ fs) ∷ map next_field gs) → AppendsText r mid new (codes "}\n")
    → AppendsText r old new (object_line ((f ∷ fs) ++ gs))
line_done r old mid new f fs gs chain end =
    subst (λ text. AppendsText r old new text) (sym (line_parts f fs gs)) (row_then r old mid new (opened (f ∷ fs) ∷ map next_field gs) (codes "}\n" ∷ []) chain end)

-- an object: its first field, the others, and its end
pub object_parts : (f : Field) (fs : List Field) → object (f ∷ fs) ≡ concat (((123 ∷ field_text f) ∷ map next_field fs) ++ (125 ∷ []) ∷ [])
object_parts f fs =
    ap (λ (l : List ℕ). 123 ∷ l ++ 125 ∷ []) (joined_fields f fs) ∙ append_assoc (123 ∷ field_text f) (concat (map next_field fs)) (125 ∷ [])
    ∙ ap (λ (l : List ℕ). (123 ∷ field_text f) ++ l) (sym (concat-append (map next_field fs) ((125 ∷ []) ∷ [])))

-- an array: the first value, and then each other behind a comma
pub array_parts : (text : List ℕ) (texts : List (List ℕ)) → array (text ∷ texts) ≡ 91 ∷ text ++ flat_map behind_comma texts ++ 93 ∷ []
array_parts text texts = ap (λ (l : List ℕ). 91 ∷ l ++ 93 ∷ []) (joined text texts)

-- texts were appended in turn, which are one text
pub in_turn : {old new text : List ℕ} (parts : List (List ℕ)) → concat parts ≡ text → Chain new old parts → new ≡ old ++ text
in_turn {old = old} {new = new} parts e chain = row old new parts chain ∙ ap (λ (l : List ℕ). old ++ l) e

-- two texts were appended, which are one
pub both : (old mid new x y : List ℕ) → mid ≡ old ++ x → new ≡ mid ++ y → new ≡ old ++ (x ++ y)
both old mid new x y p q = then_text old x y (x ++ y) mid new p q refl

-- a float and its number, behind a sign
abbrev pub float_parts : ℕ → List ℕ → List ℕ → List (List ℕ)
float_parts sign digits value = (sign ∷ codes "{\"float\":\"") ∷ digits ∷ codes "\",\"value\":" ∷ value ∷ (125 ∷ []) ∷ []

pub float_written : (sign : ℕ) (digits value : List ℕ) → concat (float_parts sign digits value) ≡ sign ∷ object ((codes "float", in_quotes digits) ∷ (codes "value", value) ∷ [])
float_written sign digits value =
    let number = 44 ∷ field_text (codes "value", value) in
    ap (λ (l : List ℕ). (sign ∷ codes "{\"float\":\"") ++ l) (sym (append_assoc (digits ++ 34 ∷ []) number (125 ∷ []) ∙ append_assoc digits (34 ∷ []) (number ++ 125 ∷ [])))

-- a moment, up to its quality
abbrev pub time_parts : List ℕ → List ℕ → List ℕ → List ℕ → List (List ℕ)
time_parts octets time date quality = octets ∷ (34 ∷ []) ∷ time ∷ (34 ∷ []) ∷ date ∷ quality ∷ []

pub time_written : (octets time date quality value : List ℕ)
    → concat (time_parts octets time date quality) ++ value ≡ concat ((octets ++ in_quotes time) ∷ date ∷ (quality ++ value) ∷ [])
time_written octets time date quality value = simp (append_assoc, append-nil)

-- what an event's object begins with, up to its kind, and then its kind
pub head_written : (number : Field) (micros date kind : List ℕ)
    → ((123 ∷ field_text number) ++ (codes ",\"microseconds\":" ++ (micros ++ (codes ",\"time\":" ++ (date ++ []))))) ++ (44 ∷ field_text (codes "kind", kind))
    ≡ opened (number ∷ (codes "microseconds", micros) ∷ (codes "time", date) ∷ (codes "kind", kind) ∷ [])
head_written number micros date kind =
    let rest = 44 ∷ field_text (codes "kind", kind) in
    append_assoc (123 ∷ field_text number) (codes ",\"microseconds\":" ++ (micros ++ (codes ",\"time\":" ++ (date ++ [])))) rest
    ∙ ap (λ (l : List ℕ). (123 ∷ field_text number) ++ (codes ",\"microseconds\":" ++ l)) (append_assoc micros (codes ",\"time\":" ++ (date ++ [])) rest
    ∙ ap (λ (l : List ℕ). micros ++ (codes ",\"time\":" ++ l)) (ap (λ (l : List ℕ). l ++ rest) (append-nil date)))

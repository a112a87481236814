-- The objects of entries, by their pieces.
use Rattle.std.proofs.Common.{◌≡◌, ℕ, List, [], ◌∷◌, ◌++◌, ap, refl, sym, ◌∙◌, append_assoc, append-nil, Result}
use Rattle.std.specs.Prelude.{codes}
use Rattle.std.specs.Fmt.{decimal}
use Rattle.block_core.specs.declared.block.Block.{Block}
use Rattle.subscribe_core.specs.declared.entry.Entry.{Entry}
use Rattle.text_core.specs.Pieces.{AppendsText}
use Rattle.text_core.proofs.Fronts.{then_appended}
use Rattle.object_core.specs.declared.counted.Counted.{Counted}
use Rattle.object_core.specs.EventObject.{counted_name, event_fields}
use Rattle.object_core.specs.Objects.{Field, date_value, in_quotes, object_line, opened}
use Rattle.object_core.specs.Onward.{next_field, onward}
use Rattle.object_core.proofs.ObjectLines.{closed, ended, line_parts, onward-append}
use Rattle.exchange_engines.specs.EntryObject.{AreEntryObjects, IsEntryObject}

-- the number of an event, and the fields behind it
abbrev number_field : Counted → ℕ → Field
number_field counted n = (counted_name counted, decimal n)

abbrev moment_fields : ℕ → List ℕ → List Field
moment_fields moment kind = (codes "microseconds", decimal moment) ∷ (codes "time", date_value moment) ∷ (codes "kind", in_quotes kind) ∷ []

-- what the object of an event begins with was appended, and then its end
pub event_closed : {T E : Type 0} (r : Result T E) (old mid new : List ℕ) (counted : Counted) (n moment : ℕ) (kind : List ℕ) (gs : List Field) → mid ≡ old ++ (opened (event_fields counted n moment kind) ++ onward gs)
    → AppendsText r mid new (codes "}\n") → AppendsText r old new (object_line (event_fields counted n moment kind ++ gs))
event_closed r old mid new counted n moment kind gs p q = closed r old mid new (number_field counted n) (moment_fields moment kind) gs p q

-- the same with further fields
pub event_ended : {T E : Type 0} (r : Result T E) (old mid new : List ℕ) (counted : Counted) (n moment : ℕ) (kind : List ℕ) (gs hs : List Field) → mid ≡ old ++ (opened (event_fields counted n moment kind) ++ onward gs)
    → AppendsText r mid new (onward hs ++ codes "}\n") → AppendsText r old new (object_line (event_fields counted n moment kind ++ gs ++ hs))
event_ended r old mid new counted n moment kind gs hs p q = ended r old mid new (number_field counted n) (moment_fields moment kind) gs hs p q

spliced : (a b s n h z : List ℕ) → ((a ++ b) ++ (s ++ n)) ++ (h ++ z) ≡ a ++ ((b ++ (s ++ ((n ++ h) ++ []))) ++ z)
spliced a b s n h z = simp (append_assoc, append-nil) refl

-- an object whose last field has this name
pub named_last : (counted : Counted) (n moment : ℕ) (kind : List ℕ) (gs hs : List Field) (name value : List ℕ)
    → ((opened (event_fields counted n moment kind) ++ onward gs) ++ (onward hs ++ (44 ∷ 34 ∷ name ++ 34 ∷ 58 ∷ []))) ++ (value ++ codes "}\n") ≡ object_line (event_fields counted n moment kind ++ gs ++ (hs ++ (name, value) ∷ []))
named_last counted n moment kind gs hs name value =
    let e = event_fields counted n moment kind in
    let before : List ℕ = 44 ∷ 34 ∷ name ++ 34 ∷ 58 ∷ [] in
    spliced (opened e) (onward gs) (onward hs) before value (codes "}\n")
    ∙ ap (λ (l : List ℕ). opened e ++ ((onward gs ++ (onward hs ++ (l ++ []))) ++ codes "}\n")) (last_field name value)
    ∙ ap (λ (l : List ℕ). opened e ++ (l ++ codes "}\n")) (ap (λ (l : List ℕ). onward gs ++ l) (sym (onward-append hs ((name, value) ∷ []))) ∙ sym (onward-append gs (hs ++ (name, value) ∷ [])))
    ∙ sym (line_parts (number_field counted n) (moment_fields moment kind) (gs ++ (hs ++ (name, value) ∷ [])))
  where
    last_field : (name value : List ℕ) → (44 ∷ 34 ∷ name ++ 34 ∷ 58 ∷ []) ++ value ≡ next_field (name, value)
    last_field name value = ap (λ (l : List ℕ). 44 ∷ 34 ∷ l) (append_assoc name (34 ∷ 58 ∷ []) value)

-- three fields and a text behind them
pub three_and : (a b c m : List ℕ) → a ++ (b ++ (c ++ m)) ≡ (a ++ (b ++ (c ++ []))) ++ m
three_and a b c m = simp (append_assoc, append-nil) refl

-- the object of one entry more
pub objects_push : {A : Type 0} (counted : Counted) (blocks : List (Block A)) (n moment : ℕ) (entries : List (Entry A)) (x : Entry A) (text line : List ℕ) →
    AreEntryObjects counted blocks n moment entries text → IsEntryObject counted blocks n moment x line → AreEntryObjects counted blocks n moment (entries ++ x ∷ []) (text ++ line)
objects_push counted blocks n moment [] x text line e is = (line, [], is, refl, ap (λ (l : List ℕ). l ++ line) e ∙ sym (append-nil line))
objects_push counted blocks n moment (y ∷ entries) x text line h is =
    (h.0, h.1 ++ line, h.2, objects_push counted blocks n moment entries x h.1 line h.3 is, ap (λ (l : List ℕ). l ++ line) h.4 ∙ append_assoc h.0 h.1 line)

-- what the object of an event begins with was appended, and then fields and its end
pub event_with : {T E : Type 0} (r : Result T E) (old mid new : List ℕ) (counted : Counted) (n moment : ℕ) (kind : List ℕ) (hs : List Field) → mid ≡ old ++ opened (event_fields counted n moment kind)
    → AppendsText r mid new (onward hs ++ codes "}\n") → AppendsText r old new (object_line (event_fields counted n moment kind ++ hs))
event_with r old mid new counted n moment kind hs p q =
    then_appended r old mid new (opened (event_fields counted n moment kind)) (onward hs ++ codes "}\n") _ p q (sym (line_parts (number_field counted n) (moment_fields moment kind) hs))

-- two fields, others, and a text behind them
pub two_and : (a b m z : List ℕ) → a ++ (b ++ (m ++ z)) ≡ (a ++ (b ++ m)) ++ z
two_and a b m z = simp append_assoc refl

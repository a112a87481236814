-- Sequences of fields, joined where they stand.
use Rattle.std.proofs.Common.{◌≡◌, ℕ, ◌≤◌, ◌%◌, false, eqb, List, [], ◌∷◌, ◌++◌, length, Ok, Option, Some, refl, sym, ap, subst, ◌∙◌, append_assoc, arith}
use Rattle.std.proofs.lemmas.Bool.{eqb-false}
use Rattle.std.specs.Prelude.{slice_range}
use Rattle.ber_core.specs.Length.{Len}
use Rattle.ber_core.specs.Element.{contents_of}
use Rattle.ber_core.specs.Fields.{Field, Grammar, SpellsField, SpellsFields, always, filled, left_out}
use Rattle.ber_core.specs.computed.FieldReading.{field_at}
use Rattle.ber_core.specs.declared.element.Header.{Header}
use Rattle.ber_core.proofs.FieldSound.{Took, took, skipped, field_took}
use Rattle.ber_core.proofs.Regions.{element_is, region-length, region-split}
use Rattle.pdu_core.specs.Contents.{Kind, Item, a_number, contents_grammar, number as a_kind_of_number}
use Rattle.pdu_core.specs.computed.ContentsReading.{item_at}
use Rattle.pdu_core.proofs.Items.{items_sound}
use Rattle.pdu_core.proofs.Standing.{nothing}
use Rattle.repeat_core.specs.Standing.{HasFront, SpellsNumber}

-- fields, one field, and further fields
join_fields : {K I : Type 0} (G : Grammar K I) (gs hs : List (Field K I)) (g : Field K I) (us ws : List (Option I)) (v : Option I) (a e b : List ℕ)
    → SpellsFields G gs us a → SpellsField G g v e → SpellsFields G hs ws b → SpellsFields G (gs ++ g ∷ hs) (us ++ v ∷ ws) (a ++ (e ++ b))
join_fields G [] hs g [] ws v a e b none field after = (e, b, field, after, ap (λ (s : List ℕ). s ++ (e ++ b)) none)
join_fields G [] hs g (u ∷ us) ws v a e b before field after = absurd before
join_fields G (f ∷ gs) hs g [] ws v a e b before field after = absurd before
join_fields G (f ∷ gs) hs g (u ∷ us) ws v a e b (x, y, first, more, parts) field after =
    (x, y ++ (e ++ b), first, join_fields G gs hs g us ws v y e b more field after, ap (λ (s : List ℕ). s ++ (e ++ b)) parts ∙ append_assoc x y (e ++ b))

-- the same of octets where they stand
pub join_at : (gs hs : List (Field Kind Item)) (g : Field Kind Item) (us ws : List (Option Item)) (v : Option Item) (octets : List ℕ) (i j k l : ℕ) → i ≤ j → j ≤ k → k ≤ l
    → SpellsFields contents_grammar gs us (slice_range octets i j) → SpellsField contents_grammar g v (slice_range octets j k) → SpellsFields contents_grammar hs ws (slice_range octets k l)
    → SpellsFields contents_grammar (gs ++ g ∷ hs) (us ++ v ∷ ws) (slice_range octets i l)
join_at gs hs g us ws v octets i j k l low middle high before field after =
    let parts : slice_range octets i l ≡ slice_range octets i j ++ (slice_range octets j k ++ slice_range octets k l) =
    region-split octets i j l low (omega arith) ∙ ap (λ (o : List ℕ). slice_range octets i j ++ o) (region-split octets j k l middle high) in
    subst (SpellsFields contents_grammar (gs ++ g ∷ hs) (us ++ v ∷ ws)) (sym parts) (join_fields contents_grammar gs hs g us ws v _ _ _ before field after)

took_spelled : (g : Field Kind Item) (v : Option Item) (octets : List ℕ) (p e q : ℕ) → eqb (g.identifier % 32) 31 ≡ false → p ≤ e → e ≤ length octets → Took contents_grammar g p (slice_range octets p e) v q
    → SpellsField contents_grammar g v (slice_range octets p q)
took_spelled g v octets p e q low order within (took x size c rest parts len spelled is next) =
    filled x c is (record { identifier = eqb-false (g.identifier % 32) 31 low; size = size; sized = len; parts = ap (slice_range octets p) next ∙ element_is octets p e g.identifier size c rest order within parts }) spelled
took_spelled g v octets p e q low order within (skipped n means next) = left_out means (nothing octets p q (omega (arith, next)))

-- a field that was read is spelled from its place to the next
read_spelled : (g : Field Kind Item) (v : Option Item) (octets : List ℕ) (p e q : ℕ) → eqb (g.identifier % 32) 31 ≡ false → p ≤ e → e ≤ length octets → field_at item_at g octets p e ≡ Ok (v, q)
    → SpellsField contents_grammar g v (slice_range octets p q)
read_spelled g v octets p e q low order within is = took_spelled g v octets p e q low order within (field_took contents_grammar item_at items_sound octets e within g p order low v q is)

module _ (octets : List ℕ) (end : ℕ) (within : end ≤ length octets) where
  -- one field that was read, and those behind it
  pub step : (g : Field Kind Item) (gs : List (Field Kind Item)) (v : Option Item) (vs : List (Option Item)) (p q r : ℕ) → eqb (g.identifier % 32) 31 ≡ false → p ≤ q → q ≤ end → q ≤ r
      → field_at item_at g octets p end ≡ Ok (v, q) → SpellsFields contents_grammar gs vs (slice_range octets q r) → SpellsFields contents_grammar (g ∷ gs) (v ∷ vs) (slice_range octets p r)
  step g gs v vs p q r low order top behind read rest =
      (slice_range octets p q, slice_range octets q r, read_spelled g v octets p end q low (omega arith) within read, rest, region-split octets p q r order behind)

  -- no field is left
  pub none : (p r : ℕ) → r ≤ p → SpellsFields contents_grammar [] [] (slice_range octets p r)
  none p r h = nothing octets p r h

-- a field whose header and contents stand there
pub number_field_is : (id n : ℕ) (o : List ℕ) (h : Header) → eqb (id % 32) 31 ≡ false → h.at ≤ h.contents_from → h.contents_from ≤ h.contents_to → h.contents_to ≤ length o → HasFront id o h → SpellsNumber n o h
    → SpellsField contents_grammar (record { identifier = id; kind = a_kind_of_number; presence = always }) (Some (a_number n)) (slice_range o h.at h.contents_to)
number_field_is id n o h low begins order within front spelled =
    let c = contents_of o h in
    filled (a_number n) c refl (record {
      identifier = eqb-false (id % 32) 31 low;
      size = front.size;
      sized = subst (λ (k : ℕ). Len k front.size) (sym (region-length o h.contents_from h.contents_to within)) front.sized;
      parts = region-split o h.at h.contents_from h.contents_to begins order ∙ ap (λ (s : List ℕ). s ++ c) front.header;
    }) spelled

-- Fields that are read, from the headers that stand at their places.
use Rattle.std.proofs.Common.{◌≡◌, ℕ, ◌+◌, ◌-◌, ◌≤◌, List, [], ◌∷◌, ◌++◌, length, Ok, Option, Some, None, Result, refl, sym, ap, subst, ◌∙◌, append_assoc, arith}
use Rattle.std.proofs.lemmas.List.{append-nil, length-append}
use Rattle.std.specs.Prelude.{slice_range}
use Rattle.ber_core.specs.Element.{contents_of}
use Rattle.ber_core.specs.Fields.{Field, IsField, SpellsFields, always}
use Rattle.ber_core.specs.Length.{Len}
use Rattle.ber_core.specs.computed.FieldReading.{field_as, fields_at, read_behind, read_behind_if, required_at, there_at}
use Rattle.ber_core.specs.computed.Reading.{◌>>=◌, IsWithin}
use Rattle.ber_core.specs.declared.element.Header.{Header}
use Rattle.ber_core.specs.declared.fault.Fault.{Fault}
use Rattle.ber_core.proofs.FieldNested.{fills_again}
use Rattle.ber_core.proofs.FieldRegions.{if_there_again}
use Rattle.ber_core.proofs.FieldSound.{required_found}
use Rattle.ber_core.proofs.Headers.{header_for}
use Rattle.ber_core.proofs.Regions.{behind_front, contents_are, front_is, region-length}
use Rattle.ber_core.proofs.Steps.{bind_ok, ok_is}
use Rattle.pdu_core.specs.Contents.{Kind, Item, contents_grammar}
use Rattle.pdu_core.specs.computed.ContentsReading.{item_at}
use Rattle.pdu_core.proofs.Items.{items_sound}
use Rattle.pdu_core.specs.Goose.{SpellsGoose, goose_fields, goose_items}
use Rattle.pdu_core.specs.declared.goose.GoosePdu.{GoosePdu}
use Rattle.repeat_core.specs.Noting.{place_behind}
use Rattle.repeat_core.specs.Standing.{HasFront}

module _ (o : List ℕ) (e : ℕ) where
  -- a field that is always there, whose header was found
  pub record Read (id : ℕ) (k : Kind) (gs : List (Field Kind Item)) (vs : List (Option Item)) (p : ℕ) (h : Header) (r : List (Option Item) × ℕ) : Type 0 where
    pub item : Item
    pub contents : item_at k o h ≡ Ok item
    pub field : field_as item_at id k always o p e ≡ Ok (Some item, h.contents_to)
    pub others : fields_at item_at gs (vs ++ Some item ∷ []) o h.contents_to e ≡ Ok r

  pub read_next : (id : ℕ) (k : Kind) (gs : List (Field Kind Item)) (vs : List (Option Item)) (p : ℕ) (h : Header) (r : List (Option Item) × ℕ) → required_at id o p e ≡ Ok h
      → fields_at item_at (record { identifier = id; kind = k; presence = always } ∷ gs) vs o p e ≡ Ok r → Read id k gs vs p h r
  read_next id k gs vs p h r is all =
      let f = bind_ok (field_as item_at id k always o p e) (λ x. fields_at item_at gs (vs ++ x.0 ∷ []) o x.1 e) r all in
      let read : read_behind item_at k o h ≡ Ok f.0 = subst (λ (q : Result Header Fault). (q >>= read_behind item_at k o) ≡ Ok f.0) is f.1 in
      let x = bind_ok (item_at k o h) (λ y. Ok (Some y, h.contents_to)) f.0 read in
      let same : (Some x.0, h.contents_to) ≡ f.0 = ok_is (Some x.0, h.contents_to) f.0 x.2 in
      record {
        item = x.0;
        contents = x.1;
        field = f.1 ∙ ap (λ (y : Option Item × ℕ). Ok y) (sym same);
        others = subst (λ (y : Option Item × ℕ). fields_at item_at gs (vs ++ y.0 ∷ []) o y.1 e ≡ Ok r) (sym same) f.2;
      }

  -- the value of a field that may be absent, whose header was found or none was
  abbrev pub Value : Kind → Option Item → Option Header → Option Item → Type 0
  Value k d None v = v ≡ d
  Value k d (Some h) v = (x : Item) × (item_at k o h ≡ Ok x) × (v ≡ Some x)

  -- the field as reading has it, where its absence means d
  abbrev pub reading_if : ℕ → Kind → Option Item → ℕ → Result (Option Item × ℕ) Fault
  reading_if id k d p = there_at id o p e >>= read_behind_if item_at k o p d

  pub record ReadIf (id : ℕ) (k : Kind) (d : Option Item) (gs : List (Field Kind Item)) (vs : List (Option Item)) (p : ℕ) (m : Option Header) (r : List (Option Item) × ℕ) : Type 0 where
    pub value : Option Item
    pub means : Value k d m value
    pub field : reading_if id k d p ≡ Ok (value, place_behind p m)
    pub others : fields_at item_at gs (vs ++ value ∷ []) o (place_behind p m) e ≡ Ok r

  behind_if : (k : Kind) (d : Option Item) (p : ℕ) (m : Option Header) (y : Option Item × ℕ) → read_behind_if item_at k o p d m ≡ Ok y → Value k d m y.0 × (y ≡ (y.0, place_behind p m))
  behind_if k d p None y is = let same : (d, p) ≡ y = ok_is (d, p) y is in (sym (ap (λ (z : Option Item × ℕ). z.0) same), ap (λ (q : ℕ). (y.0, q)) (sym (ap (λ (z : Option Item × ℕ). z.1) same)))
  behind_if k d p (Some h) y is =
      let x = bind_ok (item_at k o h) (λ z. Ok (Some z, h.contents_to)) y is in
      let same : (Some x.0, h.contents_to) ≡ y = ok_is (Some x.0, h.contents_to) y x.2 in
      ((x.0, x.1, sym (ap (λ (z : Option Item × ℕ). z.0) same)), ap (λ (q : ℕ). (y.0, q)) (sym (ap (λ (z : Option Item × ℕ). z.1) same)))

  pub read_next_if : (id : ℕ) (k : Kind) (d : Option Item) (gs : List (Field Kind Item)) (vs : List (Option Item)) (p : ℕ) (m : Option Header) (r : List (Option Item) × ℕ) → there_at id o p e ≡ Ok m
      → (reading_if id k d p >>= λ x. fields_at item_at gs (vs ++ x.0 ∷ []) o x.1 e) ≡ Ok r → ReadIf id k d gs vs p m r
  read_next_if id k d gs vs p m r is all =
      let f = bind_ok (reading_if id k d p) (λ x. fields_at item_at gs (vs ++ x.0 ∷ []) o x.1 e) r all in
      let read : read_behind_if item_at k o p d m ≡ Ok f.0 = subst (λ (q : Result (Option Header) Fault). (q >>= read_behind_if item_at k o p d) ≡ Ok f.0) is f.1 in
      let b = behind_if k d p m f.0 read in
      record {
        value = f.0.0;
        means = b.0;
        field = f.1 ∙ ap (λ (y : Option Item × ℕ). Ok y) b.1;
        others = subst (λ (y : Option Item × ℕ). fields_at item_at gs (vs ++ y.0 ∷ []) o y.1 e ≡ Ok r) b.1 f.2;
      }

-- ---- headers

-- the front of an element whose header was found
pub front_found : (id : ℕ) (o : List ℕ) (at end : ℕ) (h : Header) → end ≤ length o → IsField id o at end h → IsWithin at end h → HasFront id o h
front_found id o at end h within is places =
    let e = is.0.element in
    let to = h.contents_to in
    let c = contents_of o h in
    let top : to ≤ length o = omega (arith, places.within, within) in
    let count : length c ≡ to - h.contents_from = region-length o h.contents_from to top in
    let all : length (slice_range o at to) ≡ to - at = region-length o at to top in
    let lengths : length (slice_range o at to) ≡ length ((h.identifier ∷ e.size) ++ c) = ap length e.parts in
    let from : at + length (h.identifier ∷ e.size) ≡ h.contents_from = omega (arith, lengths, all, count, length-append (h.identifier ∷ e.size) c, places.at, places.begins, places.order) in
    let front = front_is o at to (h.identifier ∷ e.size) c (omega (arith, places.at, places.begins, places.order)) top e.parts in
    record {
      size = e.size;
      header = ap (λ (i : ℕ). slice_range o i h.contents_from) places.at ∙ ap (slice_range o at) (sym from) ∙ front ∙ ap (λ (i : ℕ). i ∷ e.size) is.1;
      sized = subst (λ (n : ℕ). Len n e.size) count e.sized;
    }

-- the fields in the element 61 whose header was found
pub fields_found : (p : GoosePdu (Unit {0})) (o : List ℕ) (at end : ℕ) (h : Header) → at ≤ end → end ≤ length o → required_at 0x61 o at end ≡ Ok h → SpellsGoose p (slice_range o at end)
    → (h.contents_to ≡ end) × (fields_at item_at goose_fields [] o h.contents_from h.contents_to ≡ Ok (goose_items p, h.contents_to))
fields_found p o at end h order within is (c, elem, spelled) =
    let parts : slice_range o at end ≡ 0x61 ∷ elem.size ++ (c ++ []) = elem.parts ∙ ap (λ (x : List ℕ). 0x61 ∷ elem.size ++ x) (sym (append-nil c)) in
    let front = header_for at 0x61 (length elem.size) (length c) in
    let there = if_there_again 0x61 at refl (slice_range o at end) elem.size c [] parts elem.sized in
    let same : h ≡ front = some_is h front (sym (required_found 0x61 at end o h is) ∙ there) in
    let ends = (behind_front o at end (0x61 ∷ elem.size ++ c) [] order within (parts ∙ ap (λ (x : List ℕ). 0x61 ∷ x) (sym (append_assoc elem.size c [])))).1 in
    let end_is : at + 1 + length elem.size + length c ≡ end = omega (arith, ends, length-append elem.size c) in
    let here : slice_range o front.contents_from front.contents_to ≡ c = contents_are o at end 0x61 elem.size c [] order within parts in
    let again = fills_again contents_grammar item_at items_sound goose_fields refl o front.contents_from front.contents_to (goose_items p) (omega arith) (omega (arith, end_is, within)) (subst (SpellsFields contents_grammar goose_fields (goose_items p)) (sym here) spelled) in
    (ap (λ (x : Header). x.contents_to) same ∙ end_is, subst (λ (x : Header). fields_at item_at goose_fields [] o x.contents_from x.contents_to ≡ Ok (goose_items p, x.contents_to)) (sym same) again)
  where
    some_is : (a b : Header) → ◌≡◌ {A = Result (Option Header) Fault} (Ok (Some a)) (Ok (Some b)) → a ≡ b
    some_is a b e = cc

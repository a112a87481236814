-- Reading of a savPdu against its spellings and its faults.
use Rattle.std.proofs.Common.{◌≡◌, ◌≢◌, ℕ, suc, ◌+◌, ◌≤◌, eqb, List, [], ◌∷◌, ◌++◌, length, Result, Ok, Err, Option, Some, refl, sym, ap, subst, ◌∙◌, arith, inl, inr}
use Rattle.std.proofs.lemmas.List.{append-nil}
use Rattle.std.proofs.lemmas.Bool.{le-ltb, eqb-true, eqb-false, eq-eqb, ne_eqb}
use Rattle.std.specs.Prelude.{slice_range, ◌⊎◌}
use Rattle.ber_core.specs.declared.element.Header.{Header}
use Rattle.ber_core.specs.declared.fault.Fault.{Fault}
use Rattle.ber_core.specs.declared.fault.Cause.TheVariants as causes
use Rattle.ber_core.specs.Element.{Elem, contents_of}
use Rattle.ber_core.specs.Faults.{fault_of}
use Rattle.ber_core.specs.computed.FieldReading.{Read, required_at, fields_at, ends_at}
use Rattle.ber_core.specs.Fields.{SpellsFields, filled, left_out}
use Rattle.ber_core.specs.computed.Reading.{◌>>=◌}
use Rattle.ber_core.proofs.FieldNested.{nothing, nested_read, nested_sound, fills_found, fills_again, result_cases, ok_is}
use Rattle.ber_core.proofs.FieldRegions.{contents_are, rest_is, if_there_again, if_there_found}
use Rattle.ber_core.proofs.FieldSequence.{fields_wrong, fields_wrong_again, ended}
use Rattle.ber_core.proofs.FieldSound.{IsSound, err_is, pair_is, required_found}
use Rattle.ber_core.proofs.Headers.{header_for}
use Rattle.ber_core.proofs.Steps.{chosen, bind_ok, bind_err}
use Rattle.pdu_core.specs.Contents.{Item}
use Rattle.pdu_core.specs.Sampled.{SvItem, a_count, some_asdus, sv_grammar, sv_fields, items_of_each, sv_items, SpellsSv, sv_apdu_grammar, sv_apdu_fields, AsduCountFault, SvFault, in_sv_fields, in_asdu_count}
use Rattle.pdu_core.specs.computed.SampledReading.{sv_item_at, asdu_count_at, counted_asdus, sv_at}
use Rattle.pdu_core.specs.declared.sampled.asdu.Asdu.{Asdu}
use Rattle.pdu_core.specs.declared.sampled.asdu.SvPdu.{SvPdu}
use Rattle.pdu_core.proofs.GooseLaws.{required_again, ends_here, not_both, left_count}
use Rattle.pdu_core.proofs.SampledItems.{sv_items_sound}

abbrev inner : Read (Unit {0}) (List (Option SvItem))
inner = nested_read sv_item_at sv_fields

inner_sound : IsSound sv_apdu_grammar inner
inner_sound = nested_sound sv_grammar sv_item_at sv_fields sv_items_sound refl

-- the values of a count and of ASDUs
abbrev pub both_items : ℕ → List (List (Option Item)) → List (Option SvItem)
both_items n vss = Some (a_count n) ∷ Some (some_asdus vss) ∷ []

-- as many lists of values as ASDUs
pub each_count : {A : Type 0} (xs : List (Asdu A)) → length (items_of_each xs) ≡ length xs
each_count [] = refl
each_count (x ∷ xs) = ap suc (each_count xs)

module _ (octets : List ℕ) (p e : ℕ) where
  abbrev outer : Result (List (Option (List (Option SvItem))) × ℕ) Fault
  outer = fields_at inner sv_apdu_fields [] octets p e

  -- the steps of reading, of which the count's is last
  record Steps : Type 0 where
    h : Header
    all : List (Option SvItem) × ℕ
    header : required_at 0x60 octets p e ≡ Ok h
    fields : fields_at sv_item_at sv_fields [] octets h.contents_from h.contents_to ≡ Ok all
    ends : ends_at all.1 h.contents_to ≡ Ok tt
    fills : ends_at h.contents_to e ≡ Ok tt
    counts : sv_at octets p e ≡ counted_asdus h.contents_from all.0
    read : outer ≡ Ok (Some all.0 ∷ [], h.contents_to)

  inner_err : (h : Header) (f : Fault) → required_at 0x60 octets p e ≡ Ok h → inner tt octets h ≡ Err f → (outer >>= λ x. ends_at x.1 e) ≡ Err f
  inner_err h f is w = rw (is, w) refl

  inner_ok : (h : Header) (vs : List (Option SvItem)) → required_at 0x60 octets p e ≡ Ok h → inner tt octets h ≡ Ok vs → outer ≡ Ok (Some vs ∷ [], h.contents_to)
  inner_ok h vs is w = rw (is, w) refl

  abbrev Stops : Type 0
  Stops = (f : Fault) × (sv_at octets p e ≡ Err f) × ((outer >>= λ x. ends_at x.1 e) ≡ Err f)

  sv_steps : Stops ⊎ Steps
  unfolding sv_at
  sv_steps = elim (result_cases (required_at 0x60 octets p e)) [
    | inr (f, r1) ↦ inl (f, rw r1 refl, rw r1 refl)
    | inl (h, r1) ↦ elim (result_cases (fields_at sv_item_at sv_fields [] octets h.contents_from h.contents_to)) [
      | inr (f, r2) ↦ inl (f, rw (r1, r2) refl, inner_err h f r1 (rw r2 refl))
      | inl (y, r2) ↦ elim (result_cases (ends_at y.1 h.contents_to)) [
        | inr (f, r3) ↦ inl (f, rw (r1, r2, r3) refl, inner_err h f r1 (rw (r2, r3) refl))
        | inl (u, r3) ↦
            let whole : outer ≡ Ok (Some y.0 ∷ [], h.contents_to) = inner_ok h y.0 r1 (rw (r2, r3) refl) in
            elim (result_cases (ends_at h.contents_to e)) [
              | inr (f, r4) ↦ inl (f, rw (r1, r2, r3, r4) refl, ap (λ r. r >>= λ x. ends_at x.1 e) whole ∙ r4)
              | inl (v, r4) ↦ inr (record { h = h; all = y; header = r1; fields = r2; ends = r3; fills = r4; counts = rw (r1, r2, r3, r4) refl; read = whole })
            ]
      ]
    ]
  ]

-- ---- the two fields

sv_form : (vs : List (Option SvItem)) (o : List ℕ) → SpellsFields sv_grammar sv_fields vs o → (n : ℕ) × (vss : List (List (Option Item))) × (vs ≡ both_items n vss)
sv_form [] o s = absurd s
sv_form (u ∷ []) o (a, b, first, more, parts) = absurd more
sv_form (u ∷ v ∷ w ∷ vs) o (a, b, first, (c, d, second, more, parts'), parts) = absurd more
sv_form (u ∷ v ∷ []) o (a, b, left_out means none, more, parts) = absurd means
sv_form (u ∷ v ∷ []) o (a, b, first, (c, d, left_out means none, more, parts'), parts) = absurd means
sv_form (u ∷ v ∷ []) o (a, b, filled (a_count n) c1 is1 elem1 spelled1, (c, d, filled (some_asdus vss) c2 is2 elem2 spelled2, more, parts'), parts) = (n, vss, rw (is1, is2) refl)
sv_form (u ∷ v ∷ []) o (a, b, filled x c1 is1 elem1 spelled1, (c, d, filled (a_count n) c2 is2 elem2 spelled2, more, parts'), parts) = absurd spelled2
sv_form (u ∷ v ∷ []) o (a, b, filled (some_asdus t) c1 is1 elem1 spelled1, (c, d, filled x c2 is2 elem2 spelled2, more, parts'), parts) = absurd spelled1

count_differs : (place n : ℕ) (vss : List (List (Option Item))) (f : Fault) → (asdu_count_at place n vss >>= λ _. Ok vss) ≡ Err f → (n ≢ length vss) × (f ≡ fault_of place causes.AsduCount)
count_differs place n vss f is = elim (bind_err (asdu_count_at place n vss) _ f is) [
  | inl w ↦ elim (chosen (eqb n (length vss)) _ _ _ w) [
    | inl t ↦ absurd (let wrong = t.1 in cc)
    | inr t ↦ (eqb-false n (length vss) t.0, err_is {A = Unit {0}} (fault_of place causes.AsduCount) f t.1)
  ]
  | inr x ↦ absurd (let wrong = x.2 in cc)
]

count_ok : (place n : ℕ) (vss us : List (List (Option Item))) → (asdu_count_at place n vss >>= λ _. Ok vss) ≡ Ok us → (n ≡ length vss) × (us ≡ vss)
count_ok place n vss us is =
    let x = bind_ok (asdu_count_at place n vss) _ us is in
    elim (chosen (eqb n (length vss)) _ _ _ x.1) [
      | inl t ↦ (eqb-true n (length vss) t.0, sym (ok_is vss us x.2))
      | inr t ↦ absurd (let wrong = t.1 in cc)
    ]

count_is_wrong : (place n : ℕ) (vss : List (List (Option Item))) → n ≢ length vss → (asdu_count_at place n vss >>= λ _. Ok vss) ≡ Err (fault_of place causes.AsduCount)
count_is_wrong place n vss h = rw (ne_eqb n (length vss) h) refl

-- ---- the element 60

outer_form : (vs : List (Option SvItem)) (o : List ℕ) → SpellsFields sv_apdu_grammar sv_apdu_fields (Some vs ∷ []) o → (c : List ℕ) × Elem 0x60 c o × SpellsFields sv_grammar sv_fields vs c
outer_form vs o (a, b, filled x c is elem spelled, none, parts) =
    let o-is : o ≡ a = parts ∙ ap (λ (s : List ℕ). a ++ s) none ∙ append-nil a in
    let same : x ≡ vs = cc in
    (c, subst (λ (s : List ℕ). Elem 0x60 c s) (sym o-is) elem, subst (λ (y : List (Option SvItem)). SpellsFields sv_grammar sv_fields y c) same spelled)
outer_form vs o (a, b, left_out means none, more, parts) = absurd means

form_outer : (vs : List (Option SvItem)) (o c : List ℕ) → Elem 0x60 c o → SpellsFields sv_grammar sv_fields vs c → SpellsFields sv_apdu_grammar sv_apdu_fields (Some vs ∷ []) o
form_outer vs o c elem s = (o, [], filled vs c refl elem s, refl, sym (append-nil o))

sv_at_is : (octets : List ℕ) (p e : ℕ) (h : Header) (x : List (Option SvItem) × ℕ) → required_at 0x60 octets p e ≡ Ok h → fields_at sv_item_at sv_fields [] octets h.contents_from h.contents_to ≡ Ok x
    → ends_at x.1 h.contents_to ≡ Ok tt → ends_at h.contents_to e ≡ Ok tt → sv_at octets p e ≡ counted_asdus h.contents_from x.0
unfolding sv_at
sv_at_is octets p e h x r1 r2 r3 r4 = rw (r1, r2, r3, r4) refl

module _ (octets : List ℕ) (p e : ℕ) (order : p ≤ e) (within : e ≤ length octets) where
  -- the octets of an APDU that was read but for its count
  wrong_count : (t : Steps octets p e) (f : Fault) → sv_at octets p e ≡ Err f → AsduCountFault f p (slice_range octets p e)
  wrong_count t f is =
      let found = if_there_found 0x60 p refl (slice_range octets p e) t.h (required_found 0x60 p e octets t.h t.header) in
      let s = found.2 in
      let from : t.h.contents_from ≡ p + 1 + length s.size = ap (λ (h : Header). h.contents_from) s.header in
      let to : t.h.contents_to ≡ p + 1 + length s.size + length s.contents = ap (λ (h : Header). h.contents_to) s.header in
      let region : slice_range octets p e ≡ 0x60 ∷ s.size ++ (s.contents ++ s.rest) = found.1 ∙ ap (λ (l : List ℕ). 0x60 ∷ l) s.parts in
      let contents : contents_of octets t.h ≡ s.contents = ap (contents_of octets) s.header ∙ contents_are octets p e 0x60 s.size s.contents s.rest order within region in
      let rest = rest_is octets p e 0x60 s.size s.contents s.rest order within region in
      let low : t.h.contents_from ≤ t.h.contents_to = omega (arith, from, to) in
      let high : t.h.contents_to ≤ length octets = omega (arith, to, rest.1, within) in
      let end = ended t.h.contents_to e t.fills in
      let all : p + 1 + length s.size + length s.contents + length s.rest ≡ e = left_count 0x60 octets p e order within s.size s.contents s.rest region in
      let none : s.rest ≡ [] = nothing s.rest (omega (arith, all, to, end)) in
      let spelled = fills_found sv_grammar sv_item_at sv_items_sound sv_fields refl octets t.h.contents_from t.h.contents_to t.all.1 t.all.0 low high t.fields (ended t.all.1 t.h.contents_to t.ends) in
      let form = sv_form t.all.0 (contents_of octets t.h) spelled in
      let counts : sv_at octets p e ≡ (asdu_count_at t.h.contents_from form.0 form.1 >>= λ _. Ok form.1) = t.counts ∙ ap (counted_asdus t.h.contents_from) form.2 in
      let d = count_differs t.h.contents_from form.0 form.1 f (sym counts ∙ is) in
      record {
        size = s.size;
        fields = s.contents;
        count = form.0;
        values = form.1;
        parts = region ∙ ap (λ (x : List ℕ). 0x60 ∷ s.size ++ (s.contents ++ x)) none ∙ ap (λ (x : List ℕ). 0x60 ∷ s.size ++ x) (append-nil s.contents);
        sized = s.sized;
        spelled = subst (SpellsFields sv_grammar sv_fields (both_items form.0 form.1)) contents (subst (λ (x : List (Option SvItem)). SpellsFields sv_grammar sv_fields x (contents_of octets t.h)) form.2 spelled);
        differs = d.0;
        fault = d.1 ∙ ap (λ (x : ℕ). fault_of x causes.AsduCount) from;
      }

  outer_found : (t : Steps octets p e) → (c : List ℕ) × Elem 0x60 c (slice_range octets p e) × SpellsFields sv_grammar sv_fields t.all.0 c
  outer_found t = outer_form t.all.0 (slice_range octets p e) (fills_found sv_apdu_grammar inner inner_sound sv_apdu_fields refl octets p e t.h.contents_to (Some t.all.0 ∷ []) order within t.read (ended t.h.contents_to e t.fills))

  -- what is read is spelled so
  pub sv_found : (vss : List (List (Option Item))) → sv_at octets p e ≡ Ok vss → (c : List ℕ) × Elem 0x60 c (slice_range octets p e) × SpellsFields sv_grammar sv_fields (both_items (length vss) vss) c
  sv_found vss is = elim (sv_steps octets p e) [
    | inl (f, w, o) ↦ absurd (let wrong = sym w ∙ is in cc)
    | inr t ↦
        let o = outer_found t in
        let form = sv_form t.all.0 o.0 o.2 in
        let counts : sv_at octets p e ≡ (asdu_count_at t.h.contents_from form.0 form.1 >>= λ _. Ok form.1) = t.counts ∙ ap (counted_asdus t.h.contents_from) form.2 in
        let n = count_ok t.h.contents_from form.0 form.1 vss (sym counts ∙ is) in
        let all : t.all.0 ≡ both_items (length vss) vss = form.2 ∙ rw (n.0, sym n.1) refl in
        (o.0, o.1, subst (λ (x : List (Option SvItem)). SpellsFields sv_grammar sv_fields x o.0) all o.2)
  ]

  -- what is spelled so is read
  pub sv_again : {A : Type 0} (q : SvPdu A) → SpellsSv q (slice_range octets p e) → sv_at octets p e ≡ Ok (items_of_each q.asdus)
  sv_again q (c, elem, spelled) =
      let w = fills_again sv_apdu_grammar inner inner_sound sv_apdu_fields refl octets p e (Some (sv_items q) ∷ []) order within (form_outer (sv_items q) (slice_range octets p e) c elem spelled) in
      elim (sv_steps octets p e) [
        | inl (f, g, o) ↦ absurd (not_both ((outer octets p e) >>= λ x. ends_at x.1 e) f o (ap (λ r. r >>= λ x. ends_at x.1 e) w ∙ rw (le-ltb e e (omega arith)) refl))
        | inr t ↦
            let same : ◌≡◌ {A = Result (List (Option (List (Option SvItem))) × ℕ) Fault} (Ok (Some t.all.0 ∷ [], t.h.contents_to)) (Ok (Some (sv_items q) ∷ [], e)) = sym t.read ∙ w in
            let pair = (pair_is (Some t.all.0 ∷ []) (Some (sv_items q) ∷ []) t.h.contents_to e same).0 in
            let all : t.all.0 ≡ sv_items q = cc in
            t.counts ∙ ap (counted_asdus t.h.contents_from) all ∙ rw (eq-eqb (length q.asdus) (length (items_of_each q.asdus)) (sym (each_count q.asdus))) refl
      ]

  -- what stops is at fault so
  pub sv_wrong : (f : Fault) → sv_at octets p e ≡ Err f → SvFault f p (slice_range octets p e)
  sv_wrong f is = elim (sv_steps octets p e) [
    | inl (g, w, o) ↦
        let same : g ≡ f = err_is {A = List (List (Option Item))} f g (sym is ∙ w) in
        in_sv_fields (fields_wrong sv_apdu_grammar inner inner_sound octets e within f sv_apdu_fields [] p refl order (o ∙ ap (λ (x : Fault). Err x) same))
    | inr t ↦ in_asdu_count (wrong_count t f is)
  ]

  count_wrong_again : (f : Fault) → AsduCountFault f p (slice_range octets p e) → sv_at octets p e ≡ Err f
  count_wrong_again f k =
      let h = header_for p 0x60 (length k.size) (length k.fields) in
      let region : slice_range octets p e ≡ 0x60 ∷ k.size ++ (k.fields ++ []) = k.parts ∙ ap (λ (x : List ℕ). 0x60 ∷ k.size ++ x) (sym (append-nil k.fields)) in
      let r1 = required_again 0x60 p e octets h (if_there_again 0x60 p refl (slice_range octets p e) k.size k.fields [] region k.sized) in
      let contents = contents_are octets p e 0x60 k.size k.fields [] order within region in
      let rest = rest_is octets p e 0x60 k.size k.fields [] order within region in
      let all = left_count 0x60 octets p e order within k.size k.fields [] region in
      let low : h.contents_from ≤ h.contents_to = omega arith in
      let high : h.contents_to ≤ length octets = omega (arith, rest.1, within) in
      let r2 = fills_again sv_grammar sv_item_at sv_items_sound sv_fields refl octets h.contents_from h.contents_to (both_items k.count k.values) low high (subst (SpellsFields sv_grammar sv_fields (both_items k.count k.values)) (sym contents) k.spelled) in
      let r3 = ends_here h.contents_to h.contents_to (omega arith) in
      let r4 = ends_here h.contents_to e (omega (arith, all)) in
      sv_at_is octets p e h (both_items k.count k.values, h.contents_to) r1 r2 r3 r4
      ∙ count_is_wrong h.contents_from k.count k.values k.differs
      ∙ ap (λ (x : Fault). Err x) (sym k.fault)

  -- a fault that is there is answered
  pub sv_wrong_again : (f : Fault) → SvFault f p (slice_range octets p e) → sv_at octets p e ≡ Err f
  sv_wrong_again f (in_sv_fields h) =
      let w = fields_wrong_again sv_apdu_grammar inner inner_sound octets e within f sv_apdu_fields [] p (slice_range octets p e) refl order refl h in
      elim (sv_steps octets p e) [
        | inl (g, is, o) ↦ let same : f ≡ g = err_is {A = Unit {0}} g f (sym o ∙ w) in is ∙ ap (λ (x : Fault). Err x) (sym same)
        | inr t ↦ absurd (not_both ((outer octets p e) >>= λ x. ends_at x.1 e) f w (ap (λ r. r >>= λ x. ends_at x.1 e) t.read ∙ t.fills))
      ]
  sv_wrong_again f (in_asdu_count k) = count_wrong_again f k

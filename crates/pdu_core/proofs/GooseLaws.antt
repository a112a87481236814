-- Reading of an APDU against its spellings and its faults.
use Rattle.std.proofs.Common.{◌≡◌, ◌≢◌, ℕ, ◌+◌, ◌≤◌, Bool, eqb, List, [], ◌∷◌, ◌++◌, length, Result, Ok, Err, Option, Some, None, refl, sym, ap, ap₂, subst, ◌∙◌, arith, inl, inr}
use Rattle.std.proofs.lemmas.List.{length-append, append-nil, drop_at}
use Rattle.std.proofs.lemmas.Bool.{le-ltb, eqb-false, eq-eqb, ne_eqb}
use Rattle.std.specs.Prelude.{slice_range, ◌⊎◌}
use Rattle.ber_core.specs.declared.fault.Fault.{Fault}
use Rattle.ber_core.specs.declared.fault.Cause.TheVariants as causes
use Rattle.ber_core.specs.declared.element.Header.{Header}
use Rattle.mms_data.specs.Data.{Data}
use Rattle.mms_data.specs.declared.time.UtcTime.{UtcTime}
use Rattle.ber_core.specs.computed.Reading.{◌>>=◌}
use Rattle.ber_core.specs.Length.{Len}
use Rattle.ber_core.specs.Element.{Elem, contents_of}
use Rattle.ber_core.specs.Faults.{fault_of}
use Rattle.ber_core.proofs.Headers.{header_for}
use Rattle.ber_core.proofs.Steps.{chosen, bind_ok, bind_err}
use Rattle.pdu_core.specs.declared.goose.GoosePdu.{GoosePdu}
use Rattle.ber_core.specs.Fields.{SpellsFields, filled, left_out}
use Rattle.pdu_core.specs.Contents.{Item, a_text, a_number, a_flag, a_time, some_members, a_fixed, some_octets, contents_grammar}
use Rattle.pdu_core.specs.Goose.{goose_front, goose_end, goose_fields, goose_items, text_if, SpellsGoose, apdu_grammar, apdu_fields, CountFault, GooseFault, in_fields, in_entry_count}
use Rattle.ber_core.specs.computed.FieldReading.{Read, required_at, there_at, if_there, fields_at, ends_at}
use Rattle.pdu_core.specs.computed.ContentsReading.{item_at}
use Rattle.pdu_core.specs.computed.GooseReading.{count_at, counted_end, counted, goose_at}
use Rattle.ber_core.proofs.FieldRegions.{behind_front, contents_are, rest_is, if_there_again, if_there_found}
use Rattle.ber_core.proofs.FieldSound.{IsSound, err_is, pair_is, required_found}
use Rattle.ber_core.proofs.FieldSequence.{Outside, fields_found, fields_wrong, fields_again, fields_wrong_again, ended}
use Rattle.ber_core.proofs.FieldNested.{nothing, nested_read, nested_sound, fills_found, fills_again, fields_split, as_many, result_cases, ok_is}
use Rattle.pdu_core.proofs.Items.{items_sound}

abbrev inner : Read (Unit {0}) (List (Option Item))
inner = nested_read item_at goose_fields

inner_sound : IsSound apdu_grammar inner
inner_sound = nested_sound contents_grammar item_at goose_fields items_sound refl

module _ (octets : List ℕ) (p e : ℕ) where
  abbrev outer : Result (List (Option (List (Option Item))) × ℕ) Fault
  outer = fields_at inner apdu_fields [] octets p e

  -- the steps of reading, of which the count's is last
  record Steps : Type 0 where
    h : Header
    front : List (Option Item) × ℕ
    all : List (Option Item) × ℕ
    header : required_at 0x61 octets p e ≡ Ok h
    first : fields_at item_at goose_front [] octets h.contents_from h.contents_to ≡ Ok front
    last : fields_at item_at goose_end front.0 octets front.1 h.contents_to ≡ Ok all
    ends : ends_at all.1 h.contents_to ≡ Ok tt
    fills : ends_at h.contents_to e ≡ Ok tt
    counts : goose_at octets p e ≡ counted front.1 all.0
    read : outer ≡ Ok (Some all.0 ∷ [], h.contents_to)

  inner_err : (h : Header) (f : Fault) → required_at 0x61 octets p e ≡ Ok h → inner tt octets h ≡ Err f → (outer >>= λ x. ends_at x.1 e) ≡ Err f
  inner_err h f is w = rw (is, w) refl

  inner_ok : (h : Header) (vs : List (Option Item)) → required_at 0x61 octets p e ≡ Ok h → inner tt octets h ≡ Ok vs → outer ≡ Ok (Some vs ∷ [], h.contents_to)
  inner_ok h vs is w = rw (is, w) refl

  two_parts : (h : Header) → fields_at item_at goose_fields [] octets h.contents_from h.contents_to ≡ (fields_at item_at goose_front [] octets h.contents_from h.contents_to >>= λ x. fields_at item_at goose_end x.0 octets x.1 h.contents_to)
  two_parts h = fields_split item_at goose_front goose_end [] octets h.contents_from h.contents_to

  abbrev Stops : Type 0
  Stops = (f : Fault) × (goose_at octets p e ≡ Err f) × ((outer >>= λ x. ends_at x.1 e) ≡ Err f)

  abbrev then_ends : Header → Result (List (Option Item) × ℕ) Fault → Result (List (Option Item)) Fault
  then_ends h r = r >>= λ x. (ends_at x.1 h.contents_to >>= λ _. Ok x.0)

  goose_steps : Stops ⊎ Steps
  unfolding goose_at
  goose_steps = elim (result_cases (required_at 0x61 octets p e)) [
    | inr (f, r1) ↦ inl (f, rw r1 refl, rw r1 refl)
    | inl (h, r1) ↦ elim (result_cases (fields_at item_at goose_front [] octets h.contents_from h.contents_to)) [
      | inr (f, r2) ↦ inl (f, rw (r1, r2) refl, inner_err h f r1 (ap (then_ends h) (two_parts h) ∙ rw r2 refl))
      | inl (x, r2) ↦ elim (result_cases (fields_at item_at goose_end x.0 octets x.1 h.contents_to)) [
        | inr (f, r3) ↦ inl (f, rw (r1, r2, r3) refl, inner_err h f r1 (ap (then_ends h) (two_parts h) ∙ rw (r2, r3) refl))
        | inl (y, r3) ↦ elim (result_cases (ends_at y.1 h.contents_to)) [
          | inr (f, r4) ↦ inl (f, rw (r1, r2, r3, r4) refl, inner_err h f r1 (ap (then_ends h) (two_parts h) ∙ rw (r2, r3, r4) refl))
          | inl (u, r4) ↦
              let done : inner tt octets h ≡ Ok y.0 = ap (then_ends h) (two_parts h) ∙ rw (r2, r3, r4) refl in
              let whole : outer ≡ Ok (Some y.0 ∷ [], h.contents_to) = inner_ok h y.0 r1 done in
              elim (result_cases (ends_at h.contents_to e)) [
                | inr (f, r5) ↦ inl (f, rw (r1, r2, r3, r4, r5) refl, ap (λ r. r >>= λ x. ends_at x.1 e) whole ∙ r5)
                | inl (v, r5) ↦ inr (record { h = h; front = x; all = y; header = r1; first = r2; last = r3; ends = r4; fills = r5; counts = rw (r1, r2, r3, r4, r5) refl; read = whole })
              ]
        ]
      ]
    ]
  ]

-- ---- the last two fields

end_form : (vs : List (Option Item)) (o : List ℕ) → SpellsFields contents_grammar goose_end vs o → (n : ℕ) × (ds : List Data) × (vs ≡ Some (a_number n) ∷ Some (some_members ds) ∷ [])
end_form [] o s = absurd s
end_form (u ∷ []) o (a, b, first, more, parts) = absurd more
end_form (u ∷ v ∷ w ∷ vs) o (a, b, first, (c, d, second, more, parts'), parts) = absurd more
end_form (u ∷ v ∷ []) o (a, b, left_out means none, more, parts) = absurd means
end_form (u ∷ v ∷ []) o (a, b, first, (c, d, left_out means none, more, parts'), parts) = absurd means
end_form (u ∷ v ∷ []) o (a, b, filled (a_number n) c1 is1 elem1 spelled1, (c, d, filled (some_members ds) c2 is2 elem2 spelled2, more, parts'), parts) = (n, ds, rw (is1, is2) refl)
end_form (u ∷ v ∷ []) o (a, b, filled x c1 is1 elem1 spelled1, (c, d, filled (a_text t) c2 is2 elem2 spelled2, more, parts'), parts) = absurd spelled2
end_form (u ∷ v ∷ []) o (a, b, filled x c1 is1 elem1 spelled1, (c, d, filled (a_number n) c2 is2 elem2 spelled2, more, parts'), parts) = absurd spelled2
end_form (u ∷ v ∷ []) o (a, b, filled x c1 is1 elem1 spelled1, (c, d, filled (a_flag t) c2 is2 elem2 spelled2, more, parts'), parts) = absurd spelled2
end_form (u ∷ v ∷ []) o (a, b, filled x c1 is1 elem1 spelled1, (c, d, filled (a_time t) c2 is2 elem2 spelled2, more, parts'), parts) = absurd spelled2
end_form (u ∷ v ∷ []) o (a, b, filled x c1 is1 elem1 spelled1, (c, d, filled (a_fixed z t) c2 is2 elem2 spelled2, more, parts'), parts) = absurd spelled2
end_form (u ∷ v ∷ []) o (a, b, filled x c1 is1 elem1 spelled1, (c, d, filled (some_octets t) c2 is2 elem2 spelled2, more, parts'), parts) = absurd spelled2
end_form (u ∷ v ∷ []) o (a, b, filled (a_text t) c1 is1 elem1 spelled1, (c, d, filled x c2 is2 elem2 spelled2, more, parts'), parts) = absurd spelled1
end_form (u ∷ v ∷ []) o (a, b, filled (a_flag t) c1 is1 elem1 spelled1, (c, d, filled x c2 is2 elem2 spelled2, more, parts'), parts) = absurd spelled1
end_form (u ∷ v ∷ []) o (a, b, filled (a_time t) c1 is1 elem1 spelled1, (c, d, filled x c2 is2 elem2 spelled2, more, parts'), parts) = absurd spelled1
end_form (u ∷ v ∷ []) o (a, b, filled (some_members t) c1 is1 elem1 spelled1, (c, d, filled x c2 is2 elem2 spelled2, more, parts'), parts) = absurd spelled1
end_form (u ∷ v ∷ []) o (a, b, filled (a_fixed z t) c1 is1 elem1 spelled1, (c, d, filled x c2 is2 elem2 spelled2, more, parts'), parts) = absurd spelled1
end_form (u ∷ v ∷ []) o (a, b, filled (some_octets t) c1 is1 elem1 spelled1, (c, d, filled x c2 is2 elem2 spelled2, more, parts'), parts) = absurd spelled1

-- what the count says, where the values are those of the front and these
counted_is : (place n : ℕ) (xs : List (Option Item)) (ds : List Data) → length xs ≡ 10 → counted place (xs ++ (Some (a_number n) ∷ Some (some_members ds) ∷ [])) ≡ (count_at place n ds >>= λ _. Ok (xs ++ (Some (a_number n) ∷ Some (some_members ds) ∷ [])))
counted_is place n xs ds size = ap (counted_end place (xs ++ (Some (a_number n) ∷ Some (some_members ds) ∷ []))) (drop_at xs (Some (a_number n) ∷ Some (some_members ds) ∷ []) 10 size)

count_differs : (place n : ℕ) (ds : List Data) (vs : List (Option Item)) (f : Fault) → (count_at place n ds >>= λ _. Ok vs) ≡ Err f → (n ≢ length ds) × (f ≡ fault_of place causes.EntryCount)
count_differs place n ds vs f is = elim (bind_err (count_at place n ds) _ f is) [
  | inl w ↦ elim (chosen (eqb n (length ds)) _ _ _ w) [
    | inl t ↦ absurd (let wrong = t.1 in cc)
    | inr t ↦ (eqb-false n (length ds) t.0, err_is {A = Unit {0}} (fault_of place causes.EntryCount) f t.1)
  ]
  | inr x ↦ absurd (let wrong = x.2 in cc)
]

count_ok : (place n : ℕ) (ds : List Data) (vs us : List (Option Item)) → (count_at place n ds >>= λ _. Ok vs) ≡ Ok us → us ≡ vs
count_ok place n ds vs us is = let x = bind_ok (count_at place n ds) _ us is in sym (ok_is vs us x.2)

pub not_both : (r : Result (Unit {0}) Fault) (f : Fault) → r ≡ Err f → r ≡ Ok tt → ⊥
not_both r f a b = let wrong : ◌≡◌ {A = Result (Unit {0}) Fault} (Err f) (Ok tt) = sym a ∙ b in cc

-- ---- the element 61

outer_form : (vs : List (Option Item)) (o : List ℕ) → SpellsFields apdu_grammar apdu_fields (Some vs ∷ []) o → (c : List ℕ) × Elem 0x61 c o × SpellsFields contents_grammar goose_fields vs c
outer_form vs o (a, b, filled x c is elem spelled, none, parts) =
    let o-is : o ≡ a = parts ∙ ap (λ (s : List ℕ). a ++ s) none ∙ append-nil a in
    let same : x ≡ vs = cc in
    (c, subst (λ (s : List ℕ). Elem 0x61 c s) (sym o-is) elem, subst (λ (y : List (Option Item)). SpellsFields contents_grammar goose_fields y c) same spelled)
outer_form vs o (a, b, left_out means none, more, parts) = absurd means

form_outer : (vs : List (Option Item)) (o c : List ℕ) → Elem 0x61 c o → SpellsFields contents_grammar goose_fields vs c → SpellsFields apdu_grammar apdu_fields (Some vs ∷ []) o
form_outer vs o c elem s = (o, [], filled vs c refl elem s, refl, sym (append-nil o))

-- the octets of an APDU that was read but for its count
record Split (octets : List ℕ) (p e : ℕ) (values all : List (Option Item)) (place : ℕ) : Type 0 where
  size : List ℕ
  front : List ℕ
  end : List ℕ
  count : ℕ
  entries : List Data
  parts : slice_range octets p e ≡ 0x61 ∷ size ++ (front ++ end)
  sized : Len (length (front ++ end)) size
  spelled : SpellsFields contents_grammar goose_front values front
  counted' : SpellsFields contents_grammar goose_end (Some (a_number count) ∷ Some (some_members entries) ∷ []) end
  together : all ≡ values ++ (Some (a_number count) ∷ Some (some_members entries) ∷ [])
  at : place ≡ p + 1 + length size + length front
  ten : length values ≡ 10

pub left_count : (id : ℕ) (octets : List ℕ) (p e : ℕ) → p ≤ e → e ≤ length octets → (size c rest : List ℕ) → slice_range octets p e ≡ id ∷ size ++ (c ++ rest) → p + 1 + length size + length c + length rest ≡ e
left_count id octets p e order within size c rest parts =
    let on = behind_front octets p e (id ∷ size ++ (c ++ rest)) [] order within (parts ∙ sym (append-nil (id ∷ size ++ (c ++ rest)))) in
    omega (arith, on.1, length-append size (c ++ rest), length-append c rest)

module _ (octets : List ℕ) (p e : ℕ) (order : p ≤ e) (within : e ≤ length octets) where
  split_of : (t : Steps octets p e) → Split octets p e t.front.0 t.all.0 t.front.1
  split_of t =
      let found = if_there_found 0x61 p refl (slice_range octets p e) t.h (required_found 0x61 p e octets t.h t.header) in
      let s = found.2 in
      let from : t.h.contents_from ≡ p + 1 + length s.size = ap (λ (h : Header). h.contents_from) s.header in
      let to : t.h.contents_to ≡ p + 1 + length s.size + length s.contents = ap (λ (h : Header). h.contents_to) s.header in
      let region : slice_range octets p e ≡ 0x61 ∷ s.size ++ (s.contents ++ s.rest) = found.1 ∙ ap (λ (l : List ℕ). 0x61 ∷ l) s.parts in
      let contents : contents_of octets t.h ≡ s.contents = ap (contents_of octets) s.header ∙ contents_are octets p e 0x61 s.size s.contents s.rest order within region in
      let rest = rest_is octets p e 0x61 s.size s.contents s.rest order within region in
      let low : t.h.contents_from ≤ t.h.contents_to = omega (arith, from, to) in
      let high : t.h.contents_to ≤ length octets = omega (arith, to, rest.1, within) in
      let end = ended t.h.contents_to e t.fills in
      let f = fields_found contents_grammar item_at items_sound octets t.h.contents_to high goose_front [] t.front.0 t.h.contents_from t.front.1 refl low t.first in
      let f-on = behind_front octets t.h.contents_from t.h.contents_to f.front f.back low high f.parts in
      let f-next : t.front.1 ≡ t.h.contents_from + length f.front = f.next in
      let l = fields_found contents_grammar item_at items_sound octets t.h.contents_to high goose_end t.front.0 t.all.0 t.front.1 t.all.1 refl (omega (arith, f-on.1, f-next)) t.last in
      let l-on = behind_front octets t.front.1 t.h.contents_to l.front l.back (omega (arith, f-on.1, f-next)) high l.parts in
      let l-next : t.all.1 ≡ t.front.1 + length l.front = l.next in
      let l-end = ended t.all.1 t.h.contents_to t.ends in
      let back : l.back ≡ [] = nothing l.back (omega (arith, l-on.1, l-next, l-end)) in
      let f-back : f.back ≡ l.front = sym f-on.0 ∙ ap (λ (x : ℕ). slice_range octets x t.h.contents_to) (sym f.next) ∙ l.parts ∙ ap (λ (x : List ℕ). l.front ++ x) back ∙ append-nil l.front in
      let c-is : s.contents ≡ f.front ++ l.front = sym contents ∙ f.parts ∙ ap (λ (x : List ℕ). f.front ++ x) f-back in
      let r-count : p + 1 + length s.size + length s.contents + length s.rest ≡ e = left_count 0x61 octets p e order within s.size s.contents s.rest region in
      let none : s.rest ≡ [] = nothing s.rest (omega (arith, r-count, to, end)) in
      let form = end_form l.values l.front l.spelled in
      record {
        size = s.size;
        front = f.front;
        end = l.front;
        count = form.0;
        entries = form.1;
        parts = region ∙ ap₂ (λ (x y : List ℕ). 0x61 ∷ s.size ++ (x ++ y)) c-is none ∙ ap (λ (x : List ℕ). 0x61 ∷ s.size ++ x) (append-nil (f.front ++ l.front));
        sized = subst (λ (x : List ℕ). Len (length x) s.size) c-is s.sized;
        spelled = subst (λ (x : List (Option Item)). SpellsFields contents_grammar goose_front x f.front) (sym f.all) f.spelled;
        counted' = subst (λ (x : List (Option Item)). SpellsFields contents_grammar goose_end x l.front) form.2 l.spelled;
        together = l.all ∙ ap (λ (x : List (Option Item)). t.front.0 ++ x) form.2;
        at = f-next ∙ ap (λ (x : ℕ). x + length f.front) from;
        ten = ap length f.all ∙ as_many contents_grammar goose_front f.values f.front f.spelled;
      }

  outer_found : (t : Steps octets p e) → (c : List ℕ) × Elem 0x61 c (slice_range octets p e) × SpellsFields contents_grammar goose_fields t.all.0 c
  outer_found t = outer_form t.all.0 (slice_range octets p e) (fills_found apdu_grammar inner inner_sound apdu_fields refl octets p e t.h.contents_to (Some t.all.0 ∷ []) order within t.read (ended t.h.contents_to e t.fills))

  counts_are : (t : Steps octets p e) (s : Split octets p e t.front.0 t.all.0 t.front.1) → goose_at octets p e ≡ (count_at t.front.1 s.count s.entries >>= λ _. Ok t.all.0)
  counts_are t s = t.counts ∙ ap (counted t.front.1) s.together ∙ counted_is t.front.1 s.count t.front.0 s.entries s.ten ∙ ap (λ (x : List (Option Item)). count_at t.front.1 s.count s.entries >>= λ _. Ok x) (sym s.together)

  -- what is read is spelled so
  pub goose_found : (vs : List (Option Item)) → goose_at octets p e ≡ Ok vs → (c : List ℕ) × Elem 0x61 c (slice_range octets p e) × SpellsFields contents_grammar goose_fields vs c
  goose_found vs is = elim (goose_steps octets p e) [
    | inl (f, w, o) ↦ absurd (let wrong = sym w ∙ is in cc)
    | inr t ↦
        let s = split_of t in
        let same : vs ≡ t.all.0 = count_ok t.front.1 s.count s.entries t.all.0 vs (sym (counts_are t s) ∙ is) in
        let o = outer_found t in
        (o.0, o.1, subst (λ (x : List (Option Item)). SpellsFields contents_grammar goose_fields x o.0) (sym same) o.2)
  ]

  -- what is spelled so is read
  pub goose_again : {A : Type 0} (q : GoosePdu A) → SpellsGoose q (slice_range octets p e) → goose_at octets p e ≡ Ok (goose_items q)
  goose_again q (c, elem, spelled) =
      let w = fills_again apdu_grammar inner inner_sound apdu_fields refl octets p e (Some (goose_items q) ∷ []) order within (form_outer (goose_items q) (slice_range octets p e) c elem spelled) in
      elim (goose_steps octets p e) [
        | inl (f, g, o) ↦ absurd (not_both ((outer octets p e) >>= λ x. ends_at x.1 e) f o (ap (λ r. r >>= λ x. ends_at x.1 e) w ∙ rw (le-ltb e e (omega arith)) refl))
        | inr t ↦
            let same : ◌≡◌ {A = Result (List (Option (List (Option Item))) × ℕ) Fault} (Ok (Some t.all.0 ∷ [], t.h.contents_to)) (Ok (Some (goose_items q) ∷ [], e)) = sym t.read ∙ w in
            let pair = (pair_is (Some t.all.0 ∷ []) (Some (goose_items q) ∷ []) t.h.contents_to e same).0 in
            let all : t.all.0 ≡ goose_items q = cc in
            t.counts ∙ ap (counted t.front.1) all ∙ rw (eq-eqb (length q.members) (length q.members) refl) refl
      ]

  -- what stops is at fault so
  pub goose_wrong : (f : Fault) → goose_at octets p e ≡ Err f → GooseFault f p (slice_range octets p e)
  goose_wrong f is = elim (goose_steps octets p e) [
    | inl (g, w, o) ↦
        let same : g ≡ f = err_is {A = List (Option Item)} f g (sym is ∙ w) in
        in_fields (fields_wrong apdu_grammar inner inner_sound octets e within f apdu_fields [] p refl order (o ∙ ap (λ (x : Fault). Err x) same))
    | inr t ↦
        let s = split_of t in
        let d = count_differs t.front.1 s.count s.entries t.all.0 f (sym (counts_are t s) ∙ is) in
        in_entry_count (record {
          size = s.size;
          front = s.front;
          end = s.end;
          values = t.front.0;
          count = s.count;
          entries = s.entries;
          parts = s.parts;
          sized = s.sized;
          spelled = s.spelled;
          counted = s.counted';
          differs = d.0;
          fault = d.1 ∙ ap (λ (x : ℕ). fault_of x causes.EntryCount) s.at;
        })
  ]

pub required_again : (id p e : ℕ) (octets : List ℕ) (h : Header) → if_there id p (slice_range octets p e) ≡ Ok (Some h) → required_at id octets p e ≡ Ok h
unfolding required_at there_at
required_again id p e octets h is = rw is refl

goose_at_is : (octets : List ℕ) (p e : ℕ) (h : Header) (x y : List (Option Item) × ℕ) → required_at 0x61 octets p e ≡ Ok h → fields_at item_at goose_front [] octets h.contents_from h.contents_to ≡ Ok x
    → fields_at item_at goose_end x.0 octets x.1 h.contents_to ≡ Ok y → ends_at y.1 h.contents_to ≡ Ok tt → ends_at h.contents_to e ≡ Ok tt → goose_at octets p e ≡ counted x.1 y.0
unfolding goose_at
goose_at_is octets p e h x y r1 r2 r3 r4 r5 = rw (r1, r2, r3, r4, r5) refl

end_begins : (vs : List (Option Item)) (o : List ℕ) → SpellsFields contents_grammar goose_end vs o → Outside goose_front o
end_begins [] o s = absurd s
end_begins (v ∷ vs) o (a, b, filled x c is elem spelled, more, parts) = rw (parts ∙ ap (λ (s : List ℕ). s ++ b) elem.parts) refl
end_begins (v ∷ vs) o (a, b, left_out means none, more, parts) = absurd means

pub ends_here : (q e : ℕ) → e ≤ q → ends_at q e ≡ Ok tt
ends_here q e h = rw (le-ltb q e h) refl

count_wrong : (place n : ℕ) (ds : List Data) (vs : List (Option Item)) → n ≢ length ds → (count_at place n ds >>= λ _. Ok vs) ≡ Err (fault_of place causes.EntryCount)
count_wrong place n ds vs h = rw (ne_eqb n (length ds) h) refl

module _ (octets : List ℕ) (p e : ℕ) (order : p ≤ e) (within : e ≤ length octets) where
  count_again : (f : Fault) → CountFault f p (slice_range octets p e) → goose_at octets p e ≡ Err f
  count_again f k =
      let c = k.front ++ k.end in
      let h = header_for p 0x61 (length k.size) (length c) in
      let region : slice_range octets p e ≡ 0x61 ∷ k.size ++ (c ++ []) = k.parts ∙ ap (λ (x : List ℕ). 0x61 ∷ k.size ++ x) (sym (append-nil c)) in
      let r1 = required_again 0x61 p e octets h (if_there_again 0x61 p refl (slice_range octets p e) k.size c [] region k.sized) in
      let contents = contents_are octets p e 0x61 k.size c [] order within region in
      let rest = rest_is octets p e 0x61 k.size c [] order within region in
      let all = left_count 0x61 octets p e order within k.size c [] region in
      let low : h.contents_from ≤ h.contents_to = omega arith in
      let high : h.contents_to ≤ length octets = omega (arith, rest.1, within) in
      let place = h.contents_from + length k.front in
      let on = behind_front octets h.contents_from h.contents_to k.front k.end low high contents in
      let r2 = fields_again contents_grammar item_at items_sound octets h.contents_to high goose_front [] k.values h.contents_from k.front k.end refl low (end_begins (Some (a_number k.count) ∷ Some (some_members k.entries) ∷ []) k.end k.counted) k.spelled contents in
      let r3 = fields_again contents_grammar item_at items_sound octets h.contents_to high goose_end k.values (Some (a_number k.count) ∷ Some (some_members k.entries) ∷ []) place k.end [] refl (omega (arith, on.1)) tt k.counted (on.0 ∙ sym (append-nil k.end)) in
      let r4 = ends_here (place + length k.end) h.contents_to (omega (arith, on.1)) in
      let r5 = ends_here h.contents_to e (omega (arith, all)) in
      goose_at_is octets p e h (k.values, place) (k.values ++ (Some (a_number k.count) ∷ Some (some_members k.entries) ∷ []), place + length k.end) r1 r2 r3 r4 r5
      ∙ counted_is place k.count k.values k.entries (as_many contents_grammar goose_front k.values k.front k.spelled)
      ∙ count_wrong place k.count k.entries (k.values ++ (Some (a_number k.count) ∷ Some (some_members k.entries) ∷ [])) k.differs
      ∙ ap (λ (x : Fault). Err x) (sym k.fault)

  -- a fault that is there is answered
  pub goose_wrong_again : (f : Fault) → GooseFault f p (slice_range octets p e) → goose_at octets p e ≡ Err f
  goose_wrong_again f (in_fields h) =
      let w = fields_wrong_again apdu_grammar inner inner_sound octets e within f apdu_fields [] p (slice_range octets p e) refl order refl h in
      elim (goose_steps octets p e) [
        | inl (g, is, o) ↦ let same : f ≡ g = err_is {A = Unit {0}} g f (sym o ∙ w) in is ∙ ap (λ (x : Fault). Err x) (sym same)
        | inr t ↦ absurd (not_both ((outer octets p e) >>= λ x. ends_at x.1 e) f w (ap (λ r. r >>= λ x. ends_at x.1 e) t.read ∙ t.fills))
      ]
  goose_wrong_again f (in_entry_count k) = count_again f k

-- ---- one APDU

text_if_one : (s t : Option (List ℕ)) → text_if s ≡ text_if t → s ≡ t
text_if_one None None e = refl
text_if_one None (Some t) e = absurd (cc)
text_if_one (Some s) None e = absurd (cc)
text_if_one (Some s) (Some t) e = let same : s ≡ t = cc in ap (λ (x : List ℕ). Some x) same

pub items_one : {A : Type 0} (q r : GoosePdu A) → goose_items q ≡ goose_items r → q ≡ r
items_one {A = A} q r e =
    let gocb_ref : q.gocb_ref ≡ r.gocb_ref = cc in
    let live : q.live ≡ r.live = cc in
    let dat_set : q.dat_set ≡ r.dat_set = cc in
    let id : text_if q.go_id ≡ text_if r.go_id = cc in
    let t : q.t ≡ r.t = cc in
    let st_num : q.st_num ≡ r.st_num = cc in
    let sq_num : q.sq_num ≡ r.sq_num = cc in
    let simulation : q.simulation ≡ r.simulation = cc in
    let conf_rev : q.conf_rev ≡ r.conf_rev = cc in
    let nds_com : q.nds_com ≡ r.nds_com = cc in
    let entries : q.members ≡ r.members = cc in
    same_pdu q.gocb_ref r.gocb_ref q.live r.live q.dat_set r.dat_set q.go_id r.go_id q.t r.t q.st_num r.st_num q.sq_num r.sq_num q.simulation r.simulation q.conf_rev r.conf_rev q.nds_com r.nds_com q.members r.members
    gocb_ref live dat_set (text_if_one q.go_id r.go_id id) t st_num sq_num simulation conf_rev nds_com entries where
      same_pdu : (a a' : List ℕ) (b b' : ℕ) (h h' : List ℕ) (c c' : Option (List ℕ)) (t t' : UtcTime) (i i' j j' : ℕ) (d d' : Bool) (f f' : ℕ) (k k' : Bool) (g g' : List Data) → a ≡ a' → b ≡ b' → h ≡ h' → c ≡ c' → t ≡ t' → i ≡ i' → j ≡ j' → d ≡ d' → f ≡ f' → k ≡ k' → g ≡ g'
          → ◌≡◌ {A = GoosePdu A} (record { gocb_ref = a; live = b; dat_set = h; go_id = c; t = t; st_num = i; sq_num = j; simulation = d; conf_rev = f; nds_com = k; members = g }) (record { gocb_ref = a'; live = b'; dat_set = h'; go_id = c'; t = t'; st_num = i'; sq_num = j'; simulation = d'; conf_rev = f'; nds_com = k'; members = g' })
      same_pdu a a' b b' h h' c c' t t' i i' j j' d d' f f' k k' g g' ea eb eh ec et ei ej ed ef ek eg = rw (ea, eb, eh, ec, et, ei, ej, ed, ef, ek, eg) refl

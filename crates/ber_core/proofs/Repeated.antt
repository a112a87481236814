-- Reading of repeated elements: what is read is spelled so, what is spelled so is read, and the same of faults; and
-- turns that are enough are as good as any others.
use Rattle.std.proofs.Common.{◌≡◌, ◌≢◌, ℕ, zero, suc, ◌-◌, ◌+◌, ◌%◌, ◌≤◌, ◌<◌, Bool, true, false, eqb, ltb, List, [], ◌∷◌, ◌++◌, length, Result, Ok, Err, Some, refl, sym, ap, subst, ◌∙◌, arith, inl, inr}
use Rattle.std.proofs.lemmas.List.{length-append}
use Rattle.std.proofs.lemmas.Bool.{eqb-false, ltb-true, ltb-false, lt-ltb, le-ltb, ne_eqb}
use Rattle.std.specs.Prelude.{slice_range, ◌⊎◌}
use Rattle.ber_core.specs.declared.fault.Fault.{Fault}
use Rattle.ber_core.specs.declared.fault.Cause.TheVariants as causes
use Rattle.ber_core.specs.declared.element.Header.{Header}
use Rattle.ber_core.specs.computed.Reading.{refused, ◌>>=◌, IsWithin}
use Rattle.ber_core.specs.Element.{Elem}
use Rattle.ber_core.specs.Fields.{Field, Grammar, always, FieldsFault, later, absent, missing, high, unexpected, in_length, in_contents}
use Rattle.ber_core.specs.computed.FieldReading.{Read, required_at, field_at}
use Rattle.ber_core.specs.Repeated.{SpellsEach, FrontFault, EachFault, here, behind, high as front_high, unexpected as front_unexpected, in_length as front_length, in_contents as front_contents}
use Rattle.ber_core.specs.computed.RepeatedReading.{each_within, each_at}
use Rattle.ber_core.proofs.Steps.{bind_ok, bind_err}
use Rattle.ber_core.proofs.Regions.{region-length}
use Rattle.ber_core.proofs.FieldRegions.{behind_front, if_there_found}
use Rattle.ber_core.proofs.FieldSound.{IsSound, Took, took, skipped, required_found, pair_is, field_took, field_wrong, field_wrong_again, field_length_again, field_absent}
use Rattle.ber_core.proofs.FieldSequence.{cut, elem_again}
use Rattle.ber_core.proofs.FieldNested.{nothing, ok_is, result_cases}

-- one of the elements, as a field that is always there
abbrev pub element_field : {K I : Type 0} → ℕ → K → Field K I
element_field id k = record { identifier = id; kind = k; presence = always }

-- what is read behind the header of one element: its value, and those of the elements behind it
abbrev pub onward : {K I : Type 0} → Read K I → ℕ → K → ℕ → List ℕ → ℕ → Header → Result (List I) Fault
onward read id k turns octets e h = read k octets h >>= λ x. (each_within read id k turns octets h.contents_to e >>= λ xs. Ok (x ∷ xs))

pub ahead : (p e : ℕ) → (p < e) ⊎ (e ≤ p)
ahead p e = decided (ltb p e) refl where
  decided : (b : Bool) → ltb p e ≡ b → (p < e) ⊎ (e ≤ p)
  decided true is = inl (ltb-true p e is)
  decided false is = inr (ltb-false p e is)

some_is : {A : Type 0} (x y : A) → Some x ≡ Some y → x ≡ y
some_is x y e = cc

-- ---- one turn

module _ {K I : Type 0} (read : Read K I) (id : ℕ) (k : K) (octets : List ℕ) (p e : ℕ) where
  pub within_more : (turns : ℕ) → p < e → each_within read id k (suc turns) octets p e ≡ (required_at id octets p e >>= onward read id k turns octets e)
  unfolding each_within
  within_more turns more = rw (lt-ltb p e more) refl

  pub within_done : (turns : ℕ) → e ≤ p → each_within read id k turns octets p e ≡ Ok []
  unfolding each_within
  within_done zero done = rw (le-ltb p e done) refl
  within_done (suc turns) done = rw (le-ltb p e done) refl

  within_out : p < e → each_within read id k zero octets p e ≡ refused p causes.Ends
  unfolding each_within
  within_out more = rw (lt-ltb p e more) refl

  -- a header and contents that are read, and what then follows
  turn_again : (turns : ℕ) (x : I) (q : ℕ) (r : Result (List I) Fault) → p < e → field_at read (element_field {I = I} id k) octets p e ≡ Ok (Some x, q)
      → (each_within read id k turns octets q e >>= λ xs. Ok (x ∷ xs)) ≡ r → each_within read id k (suc turns) octets p e ≡ r
  turn_again turns x q r more is then =
      let h = bind_ok (required_at id octets p e) _ (Some x, q) is in
      let y = bind_ok (read k octets h.0) _ (Some x, q) h.2 in
      let same = pair_is (Some y.0) (Some x) h.0.contents_to q y.2 in
      within_more turns more ∙ rw (h.1, y.1, some_is y.0 x (sym same.0), sym same.1) then

  -- a header or contents at fault
  turn_wrong_again : (turns : ℕ) (f : Fault) → p < e → field_at read (element_field {I = I} id k) octets p e ≡ Err f → each_within read id k (suc turns) octets p e ≡ Err f
  turn_wrong_again turns f more is = elim (bind_err (required_at id octets p e) _ f is) [
    | inl w ↦ within_more turns more ∙ rw w refl
    | inr h ↦ elim (bind_err (read k octets h.0) _ f h.2) [
      | inl w ↦ within_more turns more ∙ rw (h.1, w) refl
      | inr y ↦ absurd (let wrong = y.2 in cc)
    ]
  ]

-- one element at the front
record Front {K I : Type 0} (G : Grammar K I) (id : ℕ) (k : K) (p : ℕ) (o : List ℕ) (x : I) (q : ℕ) : Type 0 where
  contents : List ℕ
  front : List ℕ
  back : List ℕ
  elem : Elem id contents front
  spelled : G.spells k x contents
  parts : o ≡ front ++ back
  next : q ≡ p + length front

front_of : {K I : Type 0} (G : Grammar K I) (id : ℕ) (k : K) (low : eqb (id % 32) 31 ≡ false) (p : ℕ) (o : List ℕ) (x : I) (q : ℕ) → Took G (element_field id k) p o (Some x) q → Front G id k p o x q
front_of {I = I} G id k low p o x q (took y size c rest parts len spelled is next) =
    let same : y ≡ x = cc in
    record {
      contents = c;
      front = id ∷ size ++ c;
      back = rest;
      elem = record { identifier = eqb-false (id % 32) 31 low; size = size; sized = len; parts = refl };
      spelled = subst (λ (z : I). G.spells k z c) same spelled;
      parts = parts ∙ cut id size c rest;
      next = omega (arith, next, length-append size c);
    }
front_of G id k low p o x q (skipped n means next) = absurd means

-- an element has an octet at least
pub some_octet : (id : ℕ) (c o : List ℕ) → Elem id c o → 0 < length o
some_octet id c o elem = omega (arith, ap length elem.parts)

-- ---- the laws

module _ {K I : Type 0} (G : Grammar K I) (read : Read K I) (sound : IsSound G read) (id : ℕ) (k : K) (low : eqb (id % 32) 31 ≡ false) (octets : List ℕ) (e : ℕ) (within : e ≤ length octets) where
  -- the header that is required stands inside the region
  pub required_within : (p : ℕ) (h : Header) → p ≤ e → required_at id octets p e ≡ Ok h → IsWithin p e h
  required_within p h order is =
      let t = if_there_found id p low (slice_range octets p e) h (required_found id p e octets h is) in
      let parts : slice_range octets p e ≡ id ∷ t.2.size ++ (t.2.contents ++ t.2.rest) = t.1 ∙ ap (λ (x : List ℕ). id ∷ x) t.2.parts in
      let on = behind_front octets p e (id ∷ t.2.size ++ t.2.contents) t.2.rest order within (parts ∙ cut id t.2.size t.2.contents t.2.rest) in
      let size = length-append t.2.size t.2.contents in
      subst (IsWithin p e) (sym t.2.header) (record { at = refl; begins = omega arith; order = omega arith; within = omega (arith, on.1, size) })

  front_found : (p : ℕ) (h : Header) (x : I) → p ≤ e → required_at id octets p e ≡ Ok h → read k octets h ≡ Ok x → Front G id k p (slice_range octets p e) x h.contents_to
  front_found p h x order is then = front_of G id k low p (slice_range octets p e) x h.contents_to (field_took G read sound octets e within (element_field id k) p order low (Some x) h.contents_to (rw (is, then) refl))

  no_octets : (p : ℕ) → e ≤ p → slice_range octets p e ≡ []
  no_octets p done = nothing (slice_range octets p e) (omega (arith, region-length octets p e within))

  found_none : (turns p : ℕ) (xs : List I) → e ≤ p → each_within read id k turns octets p e ≡ Ok xs → SpellsEach G id k xs (slice_range octets p e)
  found_none turns p xs done is = subst (λ (y : List I). SpellsEach G id k y (slice_range octets p e)) (ok_is [] xs (sym (within_done read id k octets p e turns done) ∙ is)) (no_octets p done)

  -- what is read is spelled so
  pub each_found : (turns p : ℕ) (xs : List I) → p ≤ e → each_within read id k turns octets p e ≡ Ok xs → SpellsEach G id k xs (slice_range octets p e)
  each_found zero p xs order is = elim (ahead p e) [
    | inl more ↦ absurd (let wrong = sym (within_out read id k octets p e more) ∙ is in cc)
    | inr done ↦ found_none zero p xs done is
  ]
  each_found (suc turns) p xs order is = elim (ahead p e) [
    | inl more ↦
        let x = bind_ok (required_at id octets p e) (onward read id k turns octets e) xs (sym (within_more read id k octets p e turns more) ∙ is) in
        let y = bind_ok (read k octets x.0) _ xs x.2 in
        let z = bind_ok (each_within read id k turns octets x.0.contents_to e) _ xs y.2 in
        let t = front_found p x.0 y.0 order x.1 y.1 in
        let on = behind_front octets p e t.front t.back order within t.parts in
        let next : x.0.contents_to ≡ p + length t.front = t.next in
        let back : slice_range octets x.0.contents_to e ≡ t.back = ap (λ (w : ℕ). slice_range octets w e) t.next ∙ on.0 in
        let s = subst (SpellsEach G id k z.0) back (each_found turns x.0.contents_to z.0 (omega (arith, next, on.1)) z.1) in
        subst (λ (w : List I). SpellsEach G id k w (slice_range octets p e)) (ok_is (y.0 ∷ z.0) xs z.2) (t.contents, t.front, t.back, t.elem, t.spelled, s, t.parts)
    | inr done ↦ found_none (suc turns) p xs done is
  ]

  -- one good element in front
  front_again : (p : ℕ) (x : I) (c a b : List ℕ) → p ≤ e → Elem id c a → G.spells k x c → slice_range octets p e ≡ a ++ b
      → (field_at read (element_field id k) octets p e ≡ Ok (Some x, p + length a)) × (slice_range octets (p + length a) e ≡ b) × (p < p + length a) × (p + length a ≤ e)
  front_again p x c a b order elem spelled parts =
      let on = behind_front octets p e a b order within parts in
      (elem_again G read sound octets e within (element_field id k) p x c a b order low elem spelled parts, on.0, omega (arith, some_octet id c a elem), omega (arith, on.1))

  -- what is spelled so is read
  pub each_again : (turns p : ℕ) (xs : List I) → p ≤ e → e ≤ p + turns → SpellsEach G id k xs (slice_range octets p e) → each_within read id k turns octets p e ≡ Ok xs
  each_again turns p [] order enough s = within_done read id k octets p e turns (omega (arith, ap length s, region-length octets p e within))
  each_again zero p (x ∷ xs) order enough (c, a, b, elem, spelled, more, parts) =
      let on = front_again p x c a b order elem spelled parts in
      absurd (omega (arith, on.2, on.3, enough))
  each_again (suc turns) p (x ∷ xs) order enough (c, a, b, elem, spelled, more, parts) =
      let on = front_again p x c a b order elem spelled parts in
      let others = each_again turns (p + length a) xs on.3 (omega (arith, on.2, enough)) (subst (SpellsEach G id k xs) (sym on.1) more) in
      turn_again read id k octets p e turns x (p + length a) (Ok (x ∷ xs)) (omega (arith, on.2, on.3)) on.0 (rw others refl)

  -- ---- faults

  front_octet : (p : ℕ) (o : List ℕ) → slice_range octets p e ≡ o → 0 < length o → p < e
  front_octet p o at some = omega (arith, ap length at, region-length octets p e within, some)

  as_front : (f : Fault) (p : ℕ) (o : List ℕ) → p < e → slice_range octets p e ≡ o → field_at read (element_field id k) octets p e ≡ Err f → FieldsFault G f (element_field id k ∷ []) p o → FrontFault G id k f p o
  as_front f p o more at is (later x c a b elem spelled parts rest) =
      let good = (front_again p x c a b (omega arith) elem spelled (at ∙ parts)).0 in
      absurd (let wrong = sym good ∙ is in cc)
  as_front f p o more at is (absent may n rest) = absurd may
  as_front f p [] more at is (missing present fault) = absurd (omega (arith, ap length at, region-length octets p e within))
  as_front f p (b ∷ bs) more at is (high present tag fault) = front_high tag fault
  as_front f p (b ∷ bs) more at is (unexpected present n tag fault) = front_unexpected n tag fault
  as_front f p (b ∷ bs) more at is (in_length same wrong) = front_length same wrong
  as_front f p o more at is (in_contents c size rest parts len wrong) = front_contents c size rest parts len wrong

  front_wrong : (f : Fault) (p : ℕ) → p < e → field_at read (element_field id k) octets p e ≡ Err f → FrontFault G id k f p (slice_range octets p e)
  front_wrong f p more is = as_front f p (slice_range octets p e) more refl is (field_wrong G read sound octets e within (element_field id k) p (omega arith) low f [] is)

  front_wrong_again : (f : Fault) (p : ℕ) (o : List ℕ) → p ≤ e → slice_range octets p e ≡ o → FrontFault G id k f p o → (p < e) × (field_at read (element_field id k) octets p e ≡ Err f)
  front_wrong_again f p (b ∷ bs) order at (front_high tag fault) =
      let lone : id % 32 ≢ 31 = eqb-false _ _ low in
      (front_octet p (b ∷ bs) at (omega arith), field_absent G read sound octets e within (element_field id k) p order low refl (rw at (λ (x : b ≡ id). lone (ap (λ (y : ℕ). y % 32) (sym x) ∙ tag))) ∙ rw (at, tag, fault) refl)
  front_wrong_again f p (b ∷ bs) order at (front_unexpected n tag fault) =
      (front_octet p (b ∷ bs) at (omega arith), field_absent G read sound octets e within (element_field id k) p order low refl (rw at n) ∙ rw (at, ne_eqb _ _ tag, fault) refl)
  front_wrong_again f p (b ∷ bs) order at (front_length same wrong) =
      (front_octet p (b ∷ bs) at (omega arith), field_length_again G read sound octets e within (element_field id k) p order low f bs (at ∙ ap (λ (y : ℕ). y ∷ bs) same) wrong)
  front_wrong_again f p o order at (front_contents c size rest parts len wrong) =
      (front_octet p o at (omega (arith, ap length parts)), field_wrong_again G read sound octets e within (element_field id k) p order low f size c rest (at ∙ parts) len wrong)

  -- what stops is at fault so
  pub each_wrong : (turns p : ℕ) (f : Fault) → p ≤ e → e ≤ p + turns → each_within read id k turns octets p e ≡ Err f → EachFault G id k f p (slice_range octets p e)
  each_wrong zero p f order enough is = absurd (let wrong = sym (within_done read id k octets p e zero (omega (arith, enough))) ∙ is in cc)
  each_wrong (suc turns) p f order enough is = elim (ahead p e) [
    | inl more ↦ elim (bind_err (required_at id octets p e) (onward read id k turns octets e) f (sym (within_more read id k octets p e turns more) ∙ is)) [
      | inl w ↦ here (front_wrong f p more (rw w refl))
      | inr x ↦ elim (bind_err (read k octets x.0) _ f x.2) [
        | inl w ↦ here (front_wrong f p more (rw (x.1, w) refl))
        | inr y ↦ elim (bind_err (each_within read id k turns octets x.0.contents_to e) _ f y.2) [
          | inl w ↦
              let t = front_found p x.0 y.0 order x.1 y.1 in
              let on = behind_front octets p e t.front t.back order within t.parts in
              let next : x.0.contents_to ≡ p + length t.front = t.next in
              let some = some_octet id t.contents t.front t.elem in
              let there = each_wrong turns x.0.contents_to f (omega (arith, next, on.1)) (omega (arith, next, some, enough)) w in
              let moved = subst (λ (z : ℕ). EachFault G id k f z (slice_range octets z e)) t.next there in
              behind t.front t.back (y.0, t.contents, t.elem, t.spelled) t.parts (subst (EachFault G id k f (p + length t.front)) on.0 moved)
          | inr z ↦ absurd (let wrong = z.2 in cc)
        ]
      ]
    ]
    | inr done ↦ absurd (let wrong = sym (within_done read id k octets p e (suc turns) done) ∙ is in cc)
  ]

  -- a fault that is there stops reading
  pub each_wrong_again : (turns p : ℕ) (f : Fault) → p ≤ e → e ≤ p + turns → EachFault G id k f p (slice_range octets p e) → each_within read id k turns octets p e ≡ Err f
  each_wrong_again zero p f order enough (here wrong) =
      let t = front_wrong_again f p (slice_range octets p e) order refl wrong in
      absurd (omega (arith, t.0, enough))
  each_wrong_again (suc turns) p f order enough (here wrong) =
      let t = front_wrong_again f p (slice_range octets p e) order refl wrong in
      turn_wrong_again read id k octets p e turns f t.0 t.1
  each_wrong_again zero p f order enough (behind a b (x, c, elem, spelled) parts wrong) =
      let on = front_again p x c a b order elem spelled parts in
      absurd (omega (arith, on.2, on.3, enough))
  each_wrong_again (suc turns) p f order enough (behind a b (x, c, elem, spelled) parts wrong) =
      let on = front_again p x c a b order elem spelled parts in
      let others = each_wrong_again turns (p + length a) f on.3 (omega (arith, on.2, enough)) (subst (EachFault G id k f (p + length a)) (sym on.1) wrong) in
      turn_again read id k octets p e turns x (p + length a) (Err f) (omega (arith, on.2, on.3)) on.0 (rw others refl)

  -- ---- turns

  -- turns that are enough are as good as any others
  pub turns_enough : (n m p : ℕ) → p ≤ e → e ≤ p + n → e ≤ p + m → each_within read id k n octets p e ≡ each_within read id k m octets p e
  turns_enough n m p order low_turns high_turns = elim (result_cases (each_within read id k n octets p e)) [
    | inl x ↦ x.1 ∙ sym (each_again m p x.0 order high_turns (each_found n p x.0 order x.1))
    | inr x ↦ x.1 ∙ sym (each_wrong_again m p x.0 order high_turns (each_wrong n p x.0 order low_turns x.1))
  ]

  pub each_at_found : (p : ℕ) (xs : List I) → p ≤ e → each_at read id k octets p e ≡ Ok xs → SpellsEach G id k xs (slice_range octets p e)
  each_at_found p xs order is = each_found (length octets) p xs order is

  pub each_at_again : (p : ℕ) (xs : List I) → p ≤ e → SpellsEach G id k xs (slice_range octets p e) → each_at read id k octets p e ≡ Ok xs
  each_at_again p xs order s = each_again (length octets) p xs order (omega (arith, within)) s

  pub each_at_wrong : (p : ℕ) (f : Fault) → p ≤ e → each_at read id k octets p e ≡ Err f → EachFault G id k f p (slice_range octets p e)
  each_at_wrong p f order is = each_wrong (length octets) p f order (omega (arith, within)) is

  pub each_at_wrong_again : (p : ℕ) (f : Fault) → p ≤ e → EachFault G id k f p (slice_range octets p e) → each_at read id k octets p e ≡ Err f
  each_at_wrong_again p f order wrong = each_wrong_again (length octets) p f order (omega (arith, within)) wrong

  -- no element is left
  pub each_done : (p : ℕ) → e ≤ p → each_at read id k octets p e ≡ Ok []
  each_done p done = within_done read id k octets p e (length octets) done

  -- one element, and the elements behind it
  pub each_step : (p : ℕ) → p < e → each_at read id k octets p e ≡ (required_at id octets p e >>= λ h. (read k octets h >>= λ x. (each_at read id k octets h.contents_to e >>= λ xs. Ok (x ∷ xs))))
  each_step p more =
      let size : length octets ≡ suc (length octets - 1) = omega (arith, within) in
      let one = ap (λ (n : ℕ). each_within read id k n octets p e) size ∙ within_more read id k octets p e (length octets - 1) more in
      elim (result_cases (required_at id octets p e)) [
        | inl h ↦
            let at = required_within p h.0 (omega arith) h.1 in
            let low_place : p < h.0.contents_to = omega (arith, at.begins, at.order) in
            one ∙ rw (h.1, turns_enough (length octets - 1) (length octets) h.0.contents_to at.within (omega (arith, low_place, within)) (omega (arith, within))) refl
        | inr f ↦ one ∙ rw f.1 refl
      ]

-- What a call answers that reads one field of a sequence, in the words of the relations.
use Rattle.std.proofs.Common.{◌≡◌, ℕ, ◌≤◌, ◌%◌, eqb, List, [], ◌∷◌, length, Result, Ok, Err, Option, Some, None, refl, sym, ap, subst, ◌∙◌, inl, inr}
use Rattle.std.proofs.lemmas.Bool.{eqb-true, eqb-false, eq-eqb, ne_eqb}
use Rattle.std.specs.Prelude.{slice_range, IfOk, IfErr, IfSome}
use Rattle.ber_core.specs.declared.element.Header.{Header}
use Rattle.ber_core.specs.declared.fault.Fault.{Fault}
use Rattle.ber_core.specs.declared.fault.Cause.TheVariants as causes
use Rattle.ber_core.specs.Faults.{HeaderFault, fault_of}
use Rattle.ber_core.specs.Fields.{BeginsWith, IsField, PresentFault, RequiredFault, nothing_there, high_there, another_there, wrong_there}
use Rattle.ber_core.specs.computed.FieldReading.{absence, if_there, or_absence, required_at, there_at}
use Rattle.ber_core.specs.computed.Reading.{◌>>=◌, header_at}
use Rattle.ber_core.proofs.FieldRegions.{if_there_absent, if_there_none}
use Rattle.ber_core.proofs.FieldSound.{required_found, required_wrong}
use Rattle.ber_core.proofs.OneReading.{header_found, header_inv, header_only, header_wrong, header_wrong_again}
use Rattle.ber_core.proofs.Steps.{bind_err, bind_ok, chosen}

-- ---- on lists

-- where the identifier stands at the front, the header is read
is_read : (id p : ℕ) (o : List ℕ) → BeginsWith id o → if_there id p o ≡ (header_at p o >>= λ h. Ok (Some h))
is_read id p [] begins = absurd begins
is_read id p (b ∷ bs) begins = rw (eq-eqb b id begins) refl

-- what is read begins with the identifier
began : (id p : ℕ) (o : List ℕ) (h : Header) → if_there id p o ≡ Ok (Some h) → BeginsWith id o × (header_at p o ≡ Ok h)
began id p [] h e = absurd (cc)
began id p (b ∷ bs) h e = elim (chosen (eqb b id) _ _ _ e) [
  | inl t ↦
      let x = bind_ok (header_at p (b ∷ bs)) (λ k. Ok (Some k)) (Some h) t.1 in
      let same : x.0 ≡ h = (let y = x.2 in cc) in
      (eqb-true b id t.0, x.1 ∙ ap (λ (k : Header). Ok k) same)
  | inr t ↦ absurd (let wrong = t.1 in cc)
]

-- and so does what is refused
refused_there : (id p : ℕ) (o : List ℕ) (f : Fault) → if_there id p o ≡ Err f → BeginsWith id o × HeaderFault f p o
refused_there id p [] f e = absurd (cc)
refused_there id p (b ∷ bs) f e = elim (chosen (eqb b id) _ _ _ e) [
  | inl t ↦ elim (bind_err (header_at p (b ∷ bs)) (λ k. Ok (Some k)) f t.1) [
    | inl h ↦ (eqb-true b id t.0, header_wrong p (b ∷ bs) f h)
    | inr x ↦ absurd (let wrong = x.2 in cc)
  ]
  | inr t ↦ absurd (let wrong = t.1 in cc)
]

-- the header that is read is of the identifier at the front
identifier_is : (id p : ℕ) (o : List ℕ) (h : Header) → BeginsWith id o → header_at p o ≡ Ok h → h.identifier ≡ id
identifier_is id p o h begins e =
    let front = header_inv p o h e in
    let first : front.id ≡ id = subst (BeginsWith id) front.octets begins in
    ap (λ (k : Header). k.identifier) front.behind.header ∙ first

begins_with : (id p : ℕ) (o : List ℕ) (h : Header) → header_at p o ≡ Ok h → h.identifier ≡ id → BeginsWith id o
begins_with id p o h e is =
    let front = header_inv p o h e in
    let first : front.id ≡ id = sym (ap (λ (k : Header). k.identifier) front.behind.header) ∙ is in
    subst (BeginsWith id) (sym front.octets) first

-- what is there and refused is a fault of an element that must stand there
present_is : (id : ℕ) (f : Fault) (p : ℕ) (o : List ℕ) → PresentFault id f p o → RequiredFault id f p o
present_is id f p o w = wrong_there w

-- and so is what is not there
absent_is : (id : ℕ) (f : Fault) (p : ℕ) (o : List ℕ) → ¬ BeginsWith id o → f ≡ absence p o → RequiredFault id f p o
absent_is id f p [] n is = nothing_there is
absent_is id f p (b ∷ bs) n is = elim (chosen (eqb (b % 32) 31) (fault_of p causes.HighTag) (fault_of p causes.UnexpectedTag) f (sym is)) [
  | inl t ↦ high_there n (eqb-true _ _ t.0) (sym t.1)
  | inr t ↦ another_there n (eqb-false _ _ t.0) (sym t.1)
]

-- ---- in a region

module _ (id : ℕ) (octets : List ℕ) (at end : ℕ) (order : at ≤ end) (within : end ≤ length octets) where
  stands : (h : Header) → if_there id at (slice_range octets at end) ≡ Ok (Some h) → IsField id octets at end h
  stands h e =
      let b = began id at (slice_range octets at end) h e in
      (header_found octets at end h order within b.1, identifier_is id at (slice_range octets at end) h b.0 b.1)

  stands_again : (h : Header) → IsField id octets at end h → if_there id at (slice_range octets at end) ≡ Ok (Some h)
  stands_again h (is, same) =
      let e = header_only octets at end h order within is in
      is_read id at (slice_range octets at end) (begins_with id at (slice_range octets at end) h e same) ∙ rw e refl

  present_again : (f : Fault) → PresentFault id f at (slice_range octets at end) → if_there id at (slice_range octets at end) ≡ Err f
  present_again f (begins, wrong) = is_read id at (slice_range octets at end) begins ∙ rw (header_wrong_again f at (slice_range octets at end) wrong) refl

  -- ---- a field that may be absent

  pub there_found : (r : Result (Option Header) Fault) → r ≡ there_at id octets at end → IfOk r (λ t. IfSome t (IsField id octets at end))
  unfolding there_at
  there_found (Ok (Some h)) is = stands h (sym is)
  there_found (Ok None) is = tt
  there_found (Err f) is = tt

  pub there_only : (r : Result (Option Header) Fault) → r ≡ there_at id octets at end → (h : Header) → IsField id octets at end h → r ≡ Ok (Some h)
  unfolding there_at
  there_only r is h field = is ∙ stands_again h field

  pub there_none : (r : Result (Option Header) Fault) → r ≡ there_at id octets at end → (r ≡ Ok None → ¬ BeginsWith id (slice_range octets at end)) × (¬ BeginsWith id (slice_range octets at end) → r ≡ Ok None)
  unfolding there_at
  there_none r is = (λ e. if_there_absent id at (slice_range octets at end) (sym is ∙ e), λ n. is ∙ if_there_none id at (slice_range octets at end) n)

  pub there_fault : (r : Result (Option Header) Fault) → r ≡ there_at id octets at end → IfErr r (λ f. PresentFault id f at (slice_range octets at end))
  unfolding there_at
  there_fault (Ok t) is = tt
  there_fault (Err f) is = refused_there id at (slice_range octets at end) f (sym is)

  pub there_fault_only : (r : Result (Option Header) Fault) → r ≡ there_at id octets at end → (f : Fault) → PresentFault id f at (slice_range octets at end) → r ≡ Err f
  unfolding there_at
  there_fault_only r is f wrong = is ∙ present_again f wrong

  -- ---- a field that is always there

  wrong_at : (f : Fault) (p : ℕ) (o : List ℕ) → RequiredFault id f p o → (if_there id p o >>= or_absence p o) ≡ Err f
  wrong_at f p [] (nothing_there is) = rw is refl
  wrong_at f p (b ∷ bs) (high_there other tag is) = rw (ne_eqb b id other, eq-eqb (b % 32) 31 tag, is) refl
  wrong_at f p (b ∷ bs) (another_there other tag is) = rw (ne_eqb b id other, ne_eqb (b % 32) 31 tag, is) refl
  wrong_at f p [] (wrong_there (begins, wrong)) = absurd begins
  wrong_at f p (b ∷ bs) (wrong_there (begins, wrong)) = rw (eq-eqb b id begins, header_wrong_again f p (b ∷ bs) wrong) refl

  pub required_is : (r : Result Header Fault) → r ≡ required_at id octets at end → IfOk r (IsField id octets at end)
  required_is (Ok h) is = stands h (required_found id at end octets h (sym is))
  required_is (Err f) is = tt

  pub required_only : (r : Result Header Fault) → r ≡ required_at id octets at end → (h : Header) → IsField id octets at end h → r ≡ Ok h
  unfolding required_at there_at
  required_only r is h field = is ∙ rw (stands_again h field) refl

  pub required_fault : (r : Result Header Fault) → r ≡ required_at id octets at end → IfErr r (λ f. RequiredFault id f at (slice_range octets at end))
  required_fault (Ok h) is = tt
  required_fault (Err f) is = elim (required_wrong id at end octets f (sym is)) [
    | inl w ↦ present_is id f at (slice_range octets at end) (refused_there id at (slice_range octets at end) f w)
    | inr w ↦ absent_is id f at (slice_range octets at end) (if_there_absent id at (slice_range octets at end) w.0) w.1
  ]

  pub required_fault_only : (r : Result Header Fault) → r ≡ required_at id octets at end → (f : Fault) → RequiredFault id f at (slice_range octets at end) → r ≡ Err f
  unfolding required_at there_at
  required_fault_only r is f wrong = is ∙ wrong_at f at (slice_range octets at end) wrong

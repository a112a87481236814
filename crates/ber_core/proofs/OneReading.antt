-- An element stands at a place exactly where reading gives its header, and a fault exactly where reading refuses.
use Rattle.std.proofs.Common.{◌≡◌, ℕ, suc, ◌+◌, ◌-◌, ◌%◌, ◌≤◌, eqb, List, [], ◌∷◌, ◌++◌, length, Result, Ok, Err, refl, sym, ap, subst, ◌∙◌, append_assoc, arith, inl, inr}
use Rattle.std.proofs.lemmas.List.{length-append}
use Rattle.std.proofs.lemmas.Bool.{eqb-true, eqb-false, ne_eqb, eq-eqb}
use Rattle.std.specs.Prelude.{slice_range, ◌⊎◌}
use Rattle.ber_core.specs.declared.fault.Fault.{Fault}
use Rattle.ber_core.specs.declared.element.Header.{Header}
use Rattle.ber_core.specs.Length.{Len}
use Rattle.ber_core.specs.Element.{IsIdentifier, IsHeader, contents_of}
use Rattle.ber_core.specs.Faults.{HeaderFault, nothing, high, in_length}
use Rattle.ber_core.specs.Laws.{ElementElseFault}
use Rattle.ber_core.specs.computed.Reading.{header_at}
use Rattle.ber_core.proofs.Steps.{chosen, err_is, fault_is, ok_is}
use Rattle.ber_core.proofs.Headers.{header_for, Parts, length_again, length_inv, length_wrong, length_wrong_again}
use Rattle.ber_core.proofs.Regions.{region-length, region-split, contents_are, element_is, rest_is}

-- ---- on lists

-- an identifier, a good length and its contents are read
pub header_again : (p id : ℕ) (size c rest : List ℕ) → IsIdentifier id → Len (length c) size → header_at p (id ∷ size ++ (c ++ rest)) ≡ Ok (header_for p id (length size) (length c))
unfolding header_at
header_again p id size c rest is len = rw (ne_eqb (id % 32) 31 is) (length_again p id size c rest len)

-- what is read begins with an identifier, a good length and its contents
pub record Front (p : ℕ) (o : List ℕ) (h : Header) : Type 0 where
  pub id : ℕ
  pub more : List ℕ
  pub octets : o ≡ id ∷ more
  pub identifier : IsIdentifier id
  pub behind : Parts p id more h

pub header_inv : (p : ℕ) (o : List ℕ) (h : Header) → header_at p o ≡ Ok h → Front p o h
unfolding header_at
header_inv p [] h e = absurd (cc)
header_inv p (id ∷ more) h e = elim (chosen (eqb (id % 32) 31) _ _ _ e) [
  | inl t ↦ absurd (let wrong = t.1 in cc)
  | inr t ↦ record { id = id; more = more; octets = refl; identifier = eqb-false _ _ t.0; behind = length_inv p id more h t.1 }
]

-- what is refused is at fault
pub header_wrong : (p : ℕ) (o : List ℕ) (f : Fault) → header_at p o ≡ Err f → HeaderFault f p o
unfolding header_at
header_wrong p [] f e = nothing (fault_is {A = Header} _ _ f e)
header_wrong p (id ∷ more) f e = elim (chosen (eqb (id % 32) 31) _ _ _ e) [
  | inl t ↦ high (eqb-true _ _ t.0) (fault_is {A = Header} _ _ f t.1)
  | inr t ↦ in_length (eqb-false _ _ t.0) (length_wrong p id more f t.1)
]

-- what is at fault is refused
pub header_wrong_again : (f : Fault) (p : ℕ) (o : List ℕ) → HeaderFault f p o → header_at p o ≡ Err f
unfolding header_at
header_wrong_again f p o (nothing is) = rw is refl
header_wrong_again f p (id ∷ more) (high tag is) = rw (eq-eqb (id % 32) 31 tag, is) refl
header_wrong_again f p (id ∷ more) (in_length identifier wrong) = rw (ne_eqb (id % 32) 31 identifier) (length_wrong_again f p id more wrong)

-- ---- in a region

-- the header that is read says where an element stands
pub header_found : (octets : List ℕ) (at end : ℕ) (h : Header) → at ≤ end → end ≤ length octets → header_at at (slice_range octets at end) ≡ Ok h → IsHeader octets at end h
header_found octets at end h order within e =
    let front = header_inv at (slice_range octets at end) h e in
    let b = front.behind in
    let parts : slice_range octets at end ≡ front.id ∷ b.size ++ (b.contents ++ b.rest) = front.octets ∙ ap (λ (x : List ℕ). front.id ∷ x) b.parts in
    let c_is = contents_are octets at end front.id b.size b.contents b.rest order within parts in
    let whole = element_is octets at end front.id b.size b.contents b.rest order within parts in
    let inside = (rest_is octets at end front.id b.size b.contents b.rest order within parts).1 in
    let here : IsHeader octets at end (header_for at front.id (length b.size) (length b.contents)) = record {
      here = refl;
      inside = inside;
      ordered = omega arith;
      element = record {
        identifier = front.identifier;
        size = b.size;
        sized = subst (λ (c : List ℕ). Len (length c) b.size) (sym c_is) b.sized;
        parts = whole ∙ ap (λ (c : List ℕ). front.id ∷ b.size ++ c) (sym c_is);
      };
    } in
    subst (IsHeader octets at end) (sym b.header) here

-- headers with equal fields are equal
same_fields : (a b c d a' b' c' d' : ℕ) → a ≡ a' → b ≡ b' → c ≡ c' → d ≡ d'
    → ◌≡◌ {A = Header} (record { at = a; identifier = b; contents_from = c; contents_to = d }) (record { at = a'; identifier = b'; contents_from = c'; contents_to = d' })
same_fields a b c d a' b' c' d' p q r s = rw (p, q, r, s) refl

-- the header of the element that stands there is read
pub header_only : (octets : List ℕ) (at end : ℕ) (h : Header) → at ≤ end → end ≤ length octets → IsHeader octets at end h → header_at at (slice_range octets at end) ≡ Ok h
header_only octets at end h order within is =
    let c = contents_of octets h in
    let size = is.element.size in
    let inside = is.inside in
    let ordered = is.ordered in
    let c_long : length c ≡ h.contents_to - h.contents_from = region-length octets h.contents_from h.contents_to (omega arith) in
    let long : length (slice_range octets at h.contents_to) ≡ h.contents_to - at = region-length octets at h.contents_to (omega arith) in
    let count : h.contents_to - at ≡ suc (length size + length c) = sym long ∙ ap length is.element.parts ∙ ap suc (length-append size c) in
    let rest = slice_range octets h.contents_to end in
    let parts : slice_range octets at end ≡ h.identifier ∷ size ++ (c ++ rest) =
    region-split octets at h.contents_to end (omega arith) inside ∙ ap (λ (x : List ℕ). x ++ rest) is.element.parts ∙ ap (λ (x : List ℕ). h.identifier ∷ x) (append_assoc size c rest) in
    let read = ap (header_at at) parts ∙ header_again at h.identifier size c rest is.element.identifier is.element.sized in
    read ∙ ap (λ (x : Header). Ok x) (same_fields at h.identifier (at + 1 + length size) (at + 1 + length size + length c) h.at h.identifier h.contents_from h.contents_to (sym is.here) refl (omega arith) (omega arith))

-- ---- the laws

not_both : {A : Type 0} (x : A) (f : Fault) → ◌≡◌ {A = Result A Fault} (Ok x) (Err f) → ⊥
not_both x f e = cc

pub element_is_one : (octets : List ℕ) (at end : ℕ) (h k : Header) → at ≤ end → end ≤ length octets → IsHeader octets at end h → IsHeader octets at end k → h ≡ k
element_is_one octets at end h k order within p q = ok_is h k (sym (header_only octets at end h order within p) ∙ header_only octets at end k order within q)

pub element_or_fault : (octets : List ℕ) (at end : ℕ) (h : Header) (f : Fault) → at ≤ end → end ≤ length octets → IsHeader octets at end h → HeaderFault f at (slice_range octets at end) → ⊥
element_or_fault octets at end h f order within p q = not_both h f (sym (header_only octets at end h order within p) ∙ header_wrong_again f at (slice_range octets at end) q)

pub fault_is_one : (region : List ℕ) (at : ℕ) (f g : Fault) → HeaderFault f at region → HeaderFault g at region → f ≡ g
fault_is_one region at f g p q = err_is {A = Header} g f (sym (header_wrong_again g at region q) ∙ header_wrong_again f at region p)

either : (octets : List ℕ) (at end : ℕ) → at ≤ end → end ≤ length octets → (r : Result Header Fault) → header_at at (slice_range octets at end) ≡ r
    → ((h : Header) × IsHeader octets at end h) ⊎ ((f : Fault) × HeaderFault f at (slice_range octets at end))
either octets at end order within (Ok h) e = inl (h, header_found octets at end h order within e)
either octets at end order within (Err f) e = inr (f, header_wrong at (slice_range octets at end) f e)

pub element_else_fault : ElementElseFault
element_else_fault octets at end order within = either octets at end order within (header_at at (slice_range octets at end)) refl

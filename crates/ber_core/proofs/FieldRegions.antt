-- The header of an element that may stand at the front.
use Rattle.std.proofs.Common.{◌≡◌, ℕ, ◌%◌, false, eqb, List, [], ◌∷◌, ◌++◌, length, Ok, Err, Some, None, refl, sym, ap, ◌∙◌, inl, inr}
use Rattle.std.proofs.lemmas.Bool.{eqb-true, eqb-false, ne_eqb, eq-eqb}
use Rattle.ber_core.specs.declared.fault.Fault.{Fault}
use Rattle.ber_core.specs.declared.element.Header.{Header}
use Rattle.ber_core.specs.computed.Reading.{header_at}
use Rattle.ber_core.specs.Length.{Len}
use Rattle.ber_core.specs.Faults.{LengthFault}
use Rattle.ber_core.proofs.Headers.{header_for, length_again, length_wrong, length_wrong_again, low_found, Parts}
use Rattle.ber_core.proofs.Steps.{chosen, bind_ok, bind_err}
pub use Rattle.ber_core.proofs.Regions.{behind_front, contents_are, rest_is}
use Rattle.ber_core.specs.Fields.{BeginsWith}
use Rattle.ber_core.specs.computed.FieldReading.{if_there}

-- ---- an element that is there, or is not

module _ (id p : ℕ) (low : eqb (id % 32) 31 ≡ false) where
  pub if_there_again : (o size c rest : List ℕ) → o ≡ id ∷ size ++ (c ++ rest) → Len (length c) size → if_there id p o ≡ Ok (Some (header_for p id (length size) (length c)))
  unfolding header_at
  if_there_again o size c rest at len = rw (at, eq-eqb id id refl, low, length_again p id size c rest len) refl

  pub if_there_found : (o : List ℕ) (h : Header) → if_there id p o ≡ Ok (Some h) → (ls : List ℕ) × (o ≡ id ∷ ls) × Parts p id ls h
  if_there_found [] h e = absurd (cc)
  if_there_found (b ∷ bs) h e = elim (chosen (eqb b id) _ _ _ e) [
    | inl t ↦ let same = eqb-true b id t.0 in let x = bind_ok (header_at p (b ∷ bs)) _ (Some h) t.1 in
        let is : x.0 ≡ h = (let y = x.2 in cc) in
        let head : header_at p (id ∷ bs) ≡ Ok h = ap (λ (i : ℕ). header_at p (i ∷ bs)) (sym same) ∙ x.1 ∙ ap (λ (y : Header). Ok y) is in
        (bs, ap (λ (i : ℕ). i ∷ bs) same, low_found p id bs h low head)
    | inr t ↦ absurd (let wrong = t.1 in cc)
  ]

  pub if_there_wrong : (o : List ℕ) (f : Fault) → if_there id p o ≡ Err f → (ls : List ℕ) × (o ≡ id ∷ ls) × LengthFault f p ls
  unfolding header_at
  if_there_wrong [] f e = absurd (cc)
  if_there_wrong (b ∷ bs) f e = elim (chosen (eqb b id) _ _ _ e) [
    | inl t ↦ let same = eqb-true b id t.0 in
        elim (bind_err (header_at p (b ∷ bs)) _ f t.1) [
          | inl h ↦ (bs, ap (λ (i : ℕ). i ∷ bs) same, length_wrong p id bs f (sym (rw low refl) ∙ ap (λ (i : ℕ). header_at p (i ∷ bs)) (sym same) ∙ h))
          | inr x ↦ absurd (let wrong = x.2 in cc)
        ]
    | inr t ↦ absurd (let wrong = t.1 in cc)
  ]

  pub if_there_wrong_again : (ls : List ℕ) (f : Fault) → LengthFault f p ls → if_there id p (id ∷ ls) ≡ Err f
  unfolding header_at
  if_there_wrong_again ls f h = rw (eq-eqb id id refl, low, length_wrong_again f p id ls h) refl

pub if_there_none : (id p : ℕ) (o : List ℕ) → ¬ BeginsWith id o → if_there id p o ≡ Ok None
if_there_none id p [] n = refl
if_there_none id p (b ∷ bs) n = rw (ne_eqb b id n) refl

pub if_there_absent : (id p : ℕ) (o : List ℕ) → if_there id p o ≡ Ok None → ¬ BeginsWith id o
if_there_absent id p [] e b = b
if_there_absent id p (x ∷ xs) e same = elim (chosen (eqb x id) _ _ _ e) [
  | inl t ↦ let y = bind_ok (header_at p (x ∷ xs)) _ None t.1 in absurd (let wrong = y.2 in cc)
  | inr t ↦ eqb-false x id t.0 same
]

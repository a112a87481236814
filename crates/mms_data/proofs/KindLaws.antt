-- The table of kinds, both ways.
use Rattle.std.proofs.Common.{◌≡◌, ◌≢◌, ℕ, ◌%◌, false, cond, eqb, Ok, Err, refl, ap, ◌∙◌, inl, inr}
use Rattle.std.proofs.lemmas.Bool.{eqb-true, eqb-false, ne_eqb}
use Rattle.std.specs.Prelude.{◌⊎◌, Option, Some, None}
use Rattle.ber_core.specs.declared.fault.Fault.{Fault}
use Rattle.ber_core.specs.declared.fault.Cause.TheVariants as causes
use Rattle.ber_core.specs.Faults.{fault_of}
use Rattle.ber_core.proofs.Steps.{chosen, fault_is}
use Rattle.mms_data.specs.Kinds.{identifier_of, IsKnown}
use Rattle.mms_data.specs.computed.KindReading.{kind_at, kind_or, kind_here}
use Rattle.mms_data.specs.declared.kinds.Kind.{Kind}
use Rattle.mms_data.specs.declared.kinds.Kind.TheVariants.{Array, Structure, Simple as of_kind}
use Rattle.mms_data.specs.declared.kinds.SimpleKind.TheVariants as kinds

-- the identifier of a kind announces it
pub kind_again : (k : Kind) → kind_at (identifier_of k) ≡ Some k
unfolding kind_at
kind_again Array = refl
kind_again Structure = refl
kind_again (of_kind kinds.Boolean) = refl
kind_again (of_kind kinds.BitString) = refl
kind_again (of_kind kinds.Integer) = refl
kind_again (of_kind kinds.Unsigned) = refl
kind_again (of_kind kinds.FloatingPoint) = refl
kind_again (of_kind kinds.OctetString) = refl
kind_again (of_kind kinds.VisibleString) = refl
kind_again (of_kind kinds.BinaryTime) = refl
kind_again (of_kind kinds.MmsString) = refl
kind_again (of_kind kinds.UtcTime) = refl

-- and has one octet
pub low_tag : (k : Kind) → eqb (identifier_of k % 32) 31 ≡ false
low_tag Array = refl
low_tag Structure = refl
low_tag (of_kind kinds.Boolean) = refl
low_tag (of_kind kinds.BitString) = refl
low_tag (of_kind kinds.Integer) = refl
low_tag (of_kind kinds.Unsigned) = refl
low_tag (of_kind kinds.FloatingPoint) = refl
low_tag (of_kind kinds.OctetString) = refl
low_tag (of_kind kinds.VisibleString) = refl
low_tag (of_kind kinds.BinaryTime) = refl
low_tag (of_kind kinds.MmsString) = refl
low_tag (of_kind kinds.UtcTime) = refl

one_step : (id : ℕ) (j k : Kind) (rest : Option Kind) → cond (eqb id (identifier_of j)) (Some j) rest ≡ Some k → (id ≡ identifier_of k) ⊎ (rest ≡ Some k)
one_step id j k rest e = elim (chosen (eqb id (identifier_of j)) (Some j) rest (Some k) e) [
  | inl t ↦ inl (let same : j ≡ k = (let is = t.1 in cc) in eqb-true id (identifier_of j) t.0 ∙ ap identifier_of same)
  | inr t ↦ inr t.1
]

pub kind_found : (id : ℕ) (k : Kind) → kind_at id ≡ Some k → id ≡ identifier_of k
unfolding kind_at
kind_found id k e = elim (one_step id Array k _ e) [
  | inl h ↦ h
  | inr e1 ↦
      elim (one_step id Structure k _ e1) [
        | inl h ↦ h
        | inr e2 ↦
            elim (one_step id (of_kind kinds.Boolean) k _ e2) [
              | inl h ↦ h
              | inr e3 ↦
                  elim (one_step id (of_kind kinds.BitString) k _ e3) [
                    | inl h ↦ h
                    | inr e4 ↦
                        elim (one_step id (of_kind kinds.Integer) k _ e4) [
                          | inl h ↦ h
                          | inr e5 ↦
                              elim (one_step id (of_kind kinds.Unsigned) k _ e5) [
                                | inl h ↦ h
                                | inr e6 ↦
                                    elim (one_step id (of_kind kinds.FloatingPoint) k _ e6) [
                                      | inl h ↦ h
                                      | inr e7 ↦
                                          elim (one_step id (of_kind kinds.OctetString) k _ e7) [
                                            | inl h ↦ h
                                            | inr e8 ↦
                                                elim (one_step id (of_kind kinds.VisibleString) k _ e8) [
                                                  | inl h ↦ h
                                                  | inr e9 ↦
                                                      elim (one_step id (of_kind kinds.BinaryTime) k _ e9) [
                                                        | inl h ↦ h
                                                        | inr e10 ↦
                                                            elim (one_step id (of_kind kinds.MmsString) k _ e10) [
                                                              | inl h ↦ h
                                                              | inr e11 ↦
                                                                  elim (one_step id (of_kind kinds.UtcTime) k _ e11) [ inl h ↦ h | inr e12 ↦ absurd (let wrong = e12 in cc) ]
                                                            ]
                                                      ]
                                                ]
                                          ]
                                    ]
                              ]
                        ]
                  ]
            ]
      ]
]

no_kind : (o : Option Kind) → ((k : Kind) → o ≡ Some k → ⊥) → o ≡ None
no_kind (Some k) h = absurd (h k refl)
no_kind None h = refl

unknown : (id : ℕ) → (¬ IsKnown id) → kind_at id ≡ None
unknown id h = no_kind (kind_at id) (λ k e. h (k, kind_found id k e))

known_not : (id : ℕ) → kind_at id ≡ None → ¬ IsKnown id
known_not id e known = let yes : kind_at id ≡ Some known.0 = ap kind_at known.1 ∙ kind_again known.0 in cc

kind_of_or : (p : ℕ) (o : Option Kind) (k : Kind) → kind_or p o ≡ Ok k → o ≡ Some k
kind_of_or p (Some j) k e = let same : j ≡ k = cc in ap (λ x. Some x) same
kind_of_or p None k e = absurd (cc)

none_of_or : (p : ℕ) (o : Option Kind) (f : Fault) → kind_or p o ≡ Err f → (o ≡ None) × (f ≡ fault_of p causes.UnexpectedTag)
none_of_or p (Some j) f e = absurd (cc)
none_of_or p None f e = (refl, fault_is {A = Kind} _ _ f e)

-- ---- the kind of a member

pub here_again : (p id : ℕ) (k : Kind) → id ≡ identifier_of k → kind_here p id ≡ Ok k
here_again p id k is = rw (is, low_tag k, kind_again k) refl

pub here_found : (p id : ℕ) (k : Kind) → kind_here p id ≡ Ok k → (id ≡ identifier_of k) × (eqb (id % 32) 31 ≡ false)
here_found p id k e = elim (chosen (eqb (id % 32) 31) _ _ _ e) [
  | inl t ↦ absurd (let wrong = t.1 in cc)
  | inr t ↦ (kind_found id k (kind_of_or p (kind_at id) k t.1), t.0)
]

pub here_wrong : (p id : ℕ) (f : Fault) → kind_here p id ≡ Err f
    → ((id % 32 ≡ 31) × (f ≡ fault_of p causes.HighTag)) ⊎ ((id % 32 ≢ 31) × (¬ IsKnown id) × (f ≡ fault_of p causes.UnexpectedTag))
here_wrong p id f e = elim (chosen (eqb (id % 32) 31) _ _ _ e) [
  | inl t ↦ inl (eqb-true _ _ t.0, fault_is {A = Kind} _ _ f t.1)
  | inr t ↦ let n = none_of_or p (kind_at id) f t.1 in inr (eqb-false _ _ t.0, known_not id n.0, n.1)
]

pub here_high : (p id : ℕ) (f : Fault) → id % 32 ≡ 31 → f ≡ fault_of p causes.HighTag → kind_here p id ≡ Err f
here_high p id f high is = rw (high, is) refl

pub here_unknown : (p id : ℕ) (f : Fault) → id % 32 ≢ 31 → (¬ IsKnown id) → f ≡ fault_of p causes.UnexpectedTag → kind_here p id ≡ Err f
here_unknown p id f low never is = rw (ne_eqb (id % 32) 31 low, unknown id never, is) refl

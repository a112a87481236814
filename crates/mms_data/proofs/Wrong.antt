-- Where reading stops there is that fault.
use Rattle.std.proofs.Common.{◌≡◌, ℕ, zero, suc, ◌-◌, ◌+◌, ◌%◌, ◌≤◌, ◌<◌, false, eqb, List, [], ◌∷◌, ◌++◌, length, drop, Err, refl, sym, ap, ap₂, ◌∙◌, arith, inl, inr}
use Rattle.std.proofs.lemmas.List.{length-append}
use Rattle.ber_core.specs.declared.fault.Fault.{Fault}
use Rattle.ber_core.specs.Length.{Len}
use Rattle.ber_core.specs.computed.Reading.{header_at}
use Rattle.ber_core.proofs.Headers.{header_for, length_wrong, low_found}
use Rattle.ber_core.proofs.Steps.{bind_err, fault_is}
use Rattle.mms_data.specs.Data.{Data}
use Rattle.mms_data.specs.Kinds.{identifier_of, IsKnown}
use Rattle.mms_data.specs.computed.ContentsReading.{simple_at}
use Rattle.mms_data.specs.Spelling.{FaultIn, later, too_deep, high, unexpected, in_length, in_contents, within}
use Rattle.mms_data.specs.computed.Reading.{contents_within, contents_at, known_at, member_with, members_with, member_at, members_at}
use Rattle.mms_data.specs.declared.kinds.Kind.{Kind}
use Rattle.mms_data.specs.declared.kinds.Kind.TheVariants.{Array, Structure, Simple as of_kind}
use Rattle.mms_data.proofs.KindLaws.{here_found, here_wrong}
use Rattle.mms_data.proofs.ContentsLaws.{simple_wrong}
use Rattle.mms_data.proofs.Again.{contents_again, left_over, spelled_some}
use Rattle.mms_data.proofs.Found.{member_found, member_step}

known_wrong : (L p id : ℕ) (o : List ℕ) (f : Fault) → L ≤ 16 → known_at p (id ∷ o) ≡ Err f → FaultIn f L p (id ∷ o)
known_wrong L p id o f le e = elim (here_wrong p id f e) [
  | inl h ↦ high le h.0 h.1
  | inr u ↦ unexpected le u.0 u.1 u.2
]

header_wrong : (L p id : ℕ) (o : List ℕ) (f : Fault) → L ≤ 16 → IsKnown id → eqb (id % 32) 31 ≡ false → header_at p (id ∷ o) ≡ Err f → FaultIn f L p (id ∷ o)
unfolding header_at
header_wrong L p id o f le known low e = in_length le known (length_wrong p id o f (sym (rw low refl) ∙ e))

module _ (k L p : ℕ) (o size c rest : List ℕ) (f : Fault) (depth : L + suc k ≡ 17) (len : Len (length c) size)
    (inner : (q : ℕ) → members_at k q c ≡ Err f → FaultIn f (L + 1) q c) where
  contents_wrong : (kind : Kind) → o ≡ identifier_of kind ∷ size ++ (c ++ rest) → contents_at (members_at k) kind (header_for p (identifier_of kind) (length size) (length c)) c ≡ Err f → FaultIn f L p o
  contents_wrong Array parts e = let le : L ≤ 16 = omega arith in elim (bind_err (members_at k (p + 1 + length size) c) _ f e) [
    | inl h ↦ within 161 c size rest le (inl refl) parts len (inner (p + 1 + length size) h)
    | inr x ↦ absurd (let wrong = x.2 in cc)
  ]
  contents_wrong Structure parts e = let le : L ≤ 16 = omega arith in elim (bind_err (members_at k (p + 1 + length size) c) _ f e) [
    | inl h ↦ within 162 c size rest le (inr refl) parts len (inner (p + 1 + length size) h)
    | inr x ↦ absurd (let wrong = x.2 in cc)
  ]
  contents_wrong (of_kind kind) parts e = let le : L ≤ 16 = omega arith in elim (bind_err (simple_at kind p (p + 1 + length size) c) _ f e) [
    | inl h ↦ in_contents kind c size rest le parts len (simple_wrong kind p (p + 1 + length size) c f h)
    | inr x ↦ absurd (let wrong = x.2 in cc)
  ]

member_wrong_at : (k L p id : ℕ) (o : List ℕ) (f : Fault) → L + suc k ≡ 17 → ((q : ℕ) (c : List ℕ) → members_at k q c ≡ Err f → FaultIn f (L + 1) q c)
    → member_with (members_at k) p (id ∷ o) ≡ Err f → FaultIn f L p (id ∷ o)
unfolding member_with
member_wrong_at k L p id o f depth inner e =
    let le : L ≤ 16 = omega arith in
    elim (bind_err (known_at p (id ∷ o)) _ f e) [
      | inl h ↦ known_wrong L p id o f le h
      | inr x ↦
          let kn = here_found p id x.0 x.1 in
          elim (bind_err (header_at p (id ∷ o)) _ f x.2) [
            | inl h ↦ header_wrong L p id o f le (x.0, kn.0) kn.1 h
            | inr y ↦
                let t = low_found p id o y.0 kn.1 y.1 in
                elim (bind_err (contents_at (members_at k) x.0 y.0 (contents_within y.0 (id ∷ o))) _ f y.2) [
                  | inl h ↦
                      let c-is : contents_within y.0 (id ∷ o) ≡ t.contents = ap₂ (λ a b. contents_within a (id ∷ b)) t.header t.parts ∙ contents_again p id t.size t.contents t.rest in
                      let header : y.0 ≡ header_for p (identifier_of x.0) (length t.size) (length t.contents) = t.header ∙ ap (λ j. header_for p j (length t.size) (length t.contents)) kn.0 in
                      contents_wrong k L p (id ∷ o) t.size t.contents t.rest f depth t.sized (λ q. inner q t.contents) x.0 (ap₂ (λ (a : ℕ) (b : List ℕ). a ∷ b) kn.0 t.parts)
                      (sym (ap₂ (contents_at (members_at k) x.0) header c-is) ∙ h)
                  | inr z ↦ absurd (let wrong = z.2 in cc)
                ]
          ]
    ]

module _ (k L : ℕ) (f : Fault) (depth : L + k ≡ 17) (law : (p b : ℕ) (bs : List ℕ) → member_at k p (b ∷ bs) ≡ Err f → FaultIn f L p (b ∷ bs)) where
  members_wrong : (n p : ℕ) (o : List ℕ) → length o ≤ n → members_with (member_at k) n p o ≡ Err f → FaultIn f L p o
  unfolding members_with
  members_wrong n p [] enough e = absurd (cc)
  members_wrong zero p (b ∷ bs) enough e = absurd (omega arith)
  members_wrong (suc n) p (b ∷ bs) enough e = elim (bind_err (member_at k p (b ∷ bs)) _ f e) [
    | inl h ↦ law p b bs h
    | inr x ↦
        let t = member_found k L depth p (b ∷ bs) x.0.0 x.0.1 x.1 in
        let left : drop (x.0.1 - p) (b ∷ bs) ≡ t.rest = left_over (b ∷ bs) t.first t.rest p x.0.1 t.parts t.after in
        let some : 0 < length t.first = spelled_some x.0.0 L t.first t.spelled in
        let count : length (b ∷ bs) ≡ length t.first + length t.rest = ap length t.parts ∙ length-append t.first t.rest in
        elim (bind_err (members_with (member_at k) n x.0.1 (drop (x.0.1 - p) (b ∷ bs))) _ f x.2) [
          | inl h ↦
              let there : members_with (member_at k) n (p + length t.first) t.rest ≡ Err f = sym (ap₂ (members_with (member_at k) n) t.after left) ∙ h in
              later x.0.0 t.first t.rest t.spelled t.parts (members_wrong n (p + length t.first) t.rest (omega arith) there)
          | inr y ↦ absurd (let wrong = y.2 in cc)
        ]
  ]

members_at_wrong : (k L : ℕ) (f : Fault) → L + k ≡ 17 → ((p b : ℕ) (bs : List ℕ) → member_at k p (b ∷ bs) ≡ Err f → FaultIn f L p (b ∷ bs)) → (q : ℕ) (c : List ℕ) → members_at k q c ≡ Err f → FaultIn f L q c
unfolding members_at
members_at_wrong k L f depth law q c e = members_wrong k L f depth law (length c) q c (omega arith) e

no_level : (L p b : ℕ) (bs : List ℕ) (f : Fault) → 16 < L → member_at zero p (b ∷ bs) ≡ Err f → FaultIn f L p (b ∷ bs)
unfolding member_at
no_level L p b bs f more e = too_deep more (fault_is {A = Data × ℕ} _ _ f e)

member_wrong : (k L : ℕ) (f : Fault) → L + k ≡ 17 → (p b : ℕ) (bs : List ℕ) → member_at k p (b ∷ bs) ≡ Err f → FaultIn f L p (b ∷ bs)
member_wrong zero L f depth p b bs e = no_level L p b bs f (omega arith) e
member_wrong (suc k) L f depth p b bs e = member_wrong_at k L p b bs f depth (members_at_wrong k (L + 1) f (omega arith) (member_wrong k (L + 1) f (omega arith))) (sym (member_step k p (b ∷ bs)) ∙ e)

-- Where reading members stops there is that fault.
pub all_wrong : (k L : ℕ) (f : Fault) → L + k ≡ 17 → (p : ℕ) (o : List ℕ) → members_at k p o ≡ Err f → FaultIn f L p o
all_wrong k L f depth p o e = members_at_wrong k L f depth (member_wrong k L f depth) p o e

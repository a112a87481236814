-- What is read is spelled so.
use Rattle.std.proofs.Common.{◌≡◌, ℕ, zero, suc, ◌-◌, ◌+◌, ◌%◌, false, eqb, List, [], ◌∷◌, ◌++◌, length, drop, Result, Ok, refl, sym, ap, ap₂, subst, ◌∙◌, append_assoc, arith}
use Rattle.std.proofs.lemmas.List.{length-append}
use Rattle.std.proofs.lemmas.Bool.{eqb-false}
use Rattle.ber_core.specs.declared.element.Header.{Header}
use Rattle.ber_core.specs.declared.fault.Fault.{Fault}
use Rattle.ber_core.specs.Length.{Len}
use Rattle.ber_core.specs.computed.Reading.{header_at}
use Rattle.ber_core.proofs.Headers.{header_for, low_found, Parts}
use Rattle.ber_core.proofs.Steps.{bind_ok, pair_is}
use Rattle.mms_data.specs.Data.{Data, simple, array, structure, items_of}
use Rattle.mms_data.specs.Kinds.{identifier_of, simple_kind, simple_identifier}
use Rattle.mms_data.specs.computed.ContentsReading.{simple_at}
use Rattle.mms_data.specs.Spelling.{Spells, SpellsAll}
use Rattle.mms_data.specs.computed.Reading.{contents_within, contents_at, known_at, member_with, members_with, member_at, members_at}
use Rattle.mms_data.specs.declared.kinds.Kind.{Kind}
use Rattle.mms_data.specs.declared.kinds.Kind.TheVariants.{Array, Structure, Simple as of_kind}
use Rattle.mms_data.proofs.KindLaws.{here_found, low_tag}
use Rattle.mms_data.proofs.ContentsLaws.{simple_found}
use Rattle.mms_data.proofs.Again.{contents_again, left_over}

-- a value at the front, and the place after it
pub record Taken (L p : ℕ) (o : List ℕ) (d : Data) (next : ℕ) : Type 0 where
  pub first : List ℕ
  pub rest : List ℕ
  pub parts : o ≡ first ++ rest
  pub spelled : Spells d L first
  pub after : next ≡ p + length first

module _ (member : ℕ → List ℕ → Result (Data × ℕ) Fault) (L : ℕ) (law : (p : ℕ) (o : List ℕ) (d : Data) (next : ℕ) → member p o ≡ Ok (d, next) → Taken L p o d next) where
  pub members_found : (n p : ℕ) (o : List ℕ) (ds : List Data) → members_with member n p o ≡ Ok ds → SpellsAll ds L o
  unfolding members_with
  members_found n p [] ds e = let none : ds ≡ [] = (cc) in rw none refl
  members_found zero p (b ∷ bs) ds e = absurd (cc)
  members_found (suc n) p (b ∷ bs) ds e =
      let x = bind_ok (member p (b ∷ bs)) _ ds e in
      let t = law p (b ∷ bs) x.0.0 x.0.1 x.1 in
      let y = bind_ok (members_with member n x.0.1 (drop (x.0.1 - p) (b ∷ bs))) _ ds x.2 in
      let left : drop (x.0.1 - p) (b ∷ bs) ≡ t.rest = left_over (b ∷ bs) t.first t.rest p x.0.1 t.parts t.after in
      let others : SpellsAll y.0 L t.rest = subst (λ r. SpellsAll y.0 L r) left (members_found n x.0.1 (drop (x.0.1 - p) (b ∷ bs)) y.0 y.1) in
      let is : ds ≡ x.0.0 ∷ y.0 = let e' = y.2 in (cc) in
      rw is (t.first, t.rest, t.spelled, others, t.parts)

low_number : (k : Kind) → eqb (identifier_of k % 32) 31 ≡ false → identifier_of k % 32 ≡ 31 → ⊥
low_number k e = eqb-false (identifier_of k % 32) 31 e

module _ (k L p : ℕ) (size c : List ℕ) (depth : L + suc k ≡ 17) (len : Len (length c) size) (inner : (q : ℕ) (ds : List Data) → members_at k q c ≡ Ok ds → SpellsAll ds (L + 1) c) where
  data_found : (kind : Kind) (d : Data) → contents_at (members_at k) kind (header_for p (identifier_of kind) (length size) (length c)) c ≡ Ok d → Spells d L (identifier_of kind ∷ size ++ c)
  data_found Array d e =
      let x = bind_ok (members_at k (p + 1 + length size) c) _ d e in
      let is : d ≡ array (items_of x.0) = let e' = x.2 in cc in
      rw is (omega arith, c, record { identifier = low_number Array refl; size = size; sized = len; parts = refl }, inner (p + 1 + length size) x.0 x.1)
  data_found Structure d e =
      let x = bind_ok (members_at k (p + 1 + length size) c) _ d e in
      let is : d ≡ structure (items_of x.0) = let e' = x.2 in cc in
      rw is (omega arith, c, record { identifier = low_number Structure refl; size = size; sized = len; parts = refl }, inner (p + 1 + length size) x.0 x.1)
  data_found (of_kind kind) d e =
      let x = bind_ok (simple_at kind p (p + 1 + length size) c) _ d e in
      let is : d ≡ simple x.0 = let e' = x.2 in cc in
      let v = simple_found kind p (p + 1 + length size) c x.0 x.1 in
      let id = low_number (of_kind (simple_kind x.0)) (low_tag (of_kind (simple_kind x.0))) in
      rw is (omega arith, c, record { identifier = id; size = size; sized = len; parts = ap (λ j. simple_identifier j ∷ size ++ c) (sym v.kind) }, v.spelled)

members_at_found : (k L : ℕ) → ((p : ℕ) (o : List ℕ) (d : Data) (next : ℕ) → member_at k p o ≡ Ok (d, next) → Taken L p o d next) → (q : ℕ) (c : List ℕ) (ds : List Data) → members_at k q c ≡ Ok ds → SpellsAll ds L c
unfolding members_at
members_at_found k L law q c ds e = members_found (member_at k) L law (length c) q c ds e

taken_of : (k L p id : ℕ) (o : List ℕ) (kind : Kind) (h : Header) (d : Data) (next : ℕ) → L + suc k ≡ 17 → id ≡ identifier_of kind → (t : Parts p id o h)
    → ((q : ℕ) (c : List ℕ) (ds : List Data) → members_at k q c ≡ Ok ds → SpellsAll ds (L + 1) c)
    → contents_at (members_at k) kind h (contents_within h (id ∷ o)) ≡ Ok d → next ≡ h.contents_to → Taken L p (id ∷ o) d next
taken_of k L p id o kind h d next depth known t inner e to =
    let c-is : contents_within h (id ∷ o) ≡ t.contents = ap₂ (λ x y. contents_within x (id ∷ y)) t.header t.parts ∙ contents_again p id t.size t.contents t.rest in
    let header : h ≡ header_for p (identifier_of kind) (length t.size) (length t.contents) = t.header ∙ ap (λ x. header_for p x (length t.size) (length t.contents)) known in
    let e' : contents_at (members_at k) kind (header_for p (identifier_of kind) (length t.size) (length t.contents)) t.contents ≡ Ok d = sym (ap₂ (contents_at (members_at k) kind) header c-is) ∙ e in
    let end : h.contents_to ≡ p + 1 + length t.size + length t.contents = ap (λ (x : Header). x.contents_to) t.header in
    record {
      first = id ∷ t.size ++ t.contents;
      rest = t.rest;
      parts = ap (λ (x : List ℕ). id ∷ x) (t.parts ∙ sym (append_assoc t.size t.contents t.rest));
      spelled = subst (λ x. Spells d L (x ∷ t.size ++ t.contents)) (sym known) (data_found k L p t.size t.contents depth t.sized (λ q ds. inner q t.contents ds) kind d e');
      after = omega (arith, to, end, length-append t.size t.contents);
    }

pub member_step : (k p : ℕ) (o : List ℕ) → member_at (suc k) p o ≡ member_with (members_at k) p o
unfolding member_at members_at
member_step k p o = refl

pub no_levels : (p : ℕ) (o : List ℕ) (x : Data × ℕ) → member_at zero p o ≡ Ok x → ⊥
unfolding member_at
no_levels p o x e = cc

member_inv : (k L p : ℕ) (o : List ℕ) (d : Data) (next : ℕ) → L + suc k ≡ 17 → ((q : ℕ) (c : List ℕ) (ds : List Data) → members_at k q c ≡ Ok ds → SpellsAll ds (L + 1) c)
    → member_with (members_at k) p o ≡ Ok (d, next) → Taken L p o d next
unfolding member_with
member_inv k L p [] d next depth inner e = absurd (cc)
member_inv k L p (id ∷ o) d next depth inner e =
    let x = bind_ok (known_at p (id ∷ o)) _ (d, next) e in
    let kn = here_found p id x.0 x.1 in
    let y = bind_ok (header_at p (id ∷ o)) _ (d, next) x.2 in
    let t = low_found p id o y.0 kn.1 y.1 in
    let z = bind_ok (contents_at (members_at k) x.0 y.0 (contents_within y.0 (id ∷ o))) _ (d, next) y.2 in
    let same = pair_is z.0 d y.0.contents_to next z.2 in
    taken_of k L p id o x.0 y.0 d next depth kn.0 t inner (z.1 ∙ ap (λ v. Ok v) (sym same.0)) same.1

pub member_found : (k L : ℕ) → L + k ≡ 17 → (p : ℕ) (o : List ℕ) (d : Data) (next : ℕ) → member_at k p o ≡ Ok (d, next) → Taken L p o d next
member_found zero L depth p o d next e = absurd (no_levels p o (d, next) e)
member_found (suc k) L depth p o d next e = member_inv k L p o d next depth (members_at_found k (L + 1) (member_found k (L + 1) (omega arith))) (sym (member_step k p o) ∙ e)

-- Members that are read are spelled so.
pub all_found : (k L : ℕ) → L + k ≡ 17 → (p : ℕ) (o : List ℕ) (ds : List Data) → members_at k p o ≡ Ok ds → SpellsAll ds L o
all_found k L depth p o ds e = members_at_found k L (member_found k L depth) p o ds e

-- The APDU that reading makes of the values of its fields keeps each of them: so what is read is spelled, and a fault
-- that is read is there.
use Rattle.std.proofs.Common.{◌≡◌, ℕ, ◌≤◌, eqb, List, [], ◌∷◌, length, drop, Option, Some, None, Ok, Err, refl, sym, ap, ap₂, ◌∙◌, inl, inr}
use Rattle.std.proofs.lemmas.Bool.{eqb-true}
use Rattle.std.specs.Prelude.{slice_range}
use Rattle.ber_core.specs.computed.FieldReading.{ends_at, fields_at, required_at}
use Rattle.ber_core.specs.Fields.{AbsenceMeans, Field, Presence, SpellsField, SpellsFields, always, default, optional, filled, left_out}
use Rattle.ber_core.specs.Repeated.{SpellsEach}
use Rattle.ber_core.specs.declared.fault.Fault.{Fault}
use Rattle.ber_core.proofs.FieldNested.{ok_is}
use Rattle.ber_core.proofs.Steps.{bind_ok, chosen}
use Rattle.mms_data.specs.Data.{Data}
use Rattle.pdu_core.specs.Asdu.{asdu_fields, asdu_items, fixed_if, some_octets_if, time_if}
use Rattle.pdu_core.specs.Contents.{Item, Kind, SpellsContents, a_fixed, a_flag, a_number, a_text, a_time, contents_grammar, few, fixed, flag, members, number, raw, some_members, some_octets, text, time}
use Rattle.pdu_core.specs.computed.ContentsReading.{item_at}
use Rattle.pdu_core.specs.Goose.{GooseFault, SpellsGoose, goose_end, goose_fields, goose_front, goose_items, text_if}
use Rattle.pdu_core.specs.computed.GooseReading.{count_at, counted_end, goose_at}
use Rattle.pdu_core.specs.computed.GooseValue.{flag_of, goose_value, members_of, number_of, pdu_of_items, optional_text, text_of, time_of}
use Rattle.pdu_core.specs.Sampled.{SpellsSv, SvFault, a_count, asdu_grammar, items_of_each, some_asdus, sv_fields, sv_grammar}
use Rattle.pdu_core.specs.computed.SampledReading.{sv_at}
use Rattle.pdu_core.specs.computed.SampledValue.{asdu_of_items, asdus_of_items, optional_fixed, fixed_of, optional_octets, octets_of, sv_value, optional_time}
use Rattle.pdu_core.specs.declared.goose.GoosePdu.{GoosePdu}
use Rattle.pdu_core.specs.declared.sampled.asdu.SvPdu.{SvPdu}
use Rattle.pdu_core.proofs.GooseLaws.{goose_found, goose_wrong}
use Rattle.pdu_core.proofs.Items.{not_behind}
use Rattle.pdu_core.proofs.SvLaws.{both_items, sv_found, sv_wrong}
use Rattle.pdu_core.proofs.SvShown.{sv_spelled}

-- ---- one field

-- the value that an APDU has again for a field that is there, or has a default
abbrev kept : Kind → Option Item → Option Item
kept text v = Some (a_text (text_of v))
kept number v = Some (a_number (number_of v))
kept flag v = Some (a_flag (flag_of v))
kept time v = Some (a_time (time_of v))
kept members v = Some (some_members (members_of v))
kept (fixed size) v = Some (a_fixed size (fixed_of v))
kept raw v = Some (some_octets (octets_of v))
kept few v = Some (some_octets (octets_of v))

-- the same for a field that may be absent
abbrev kept_if : Kind → Option Item → Option Item
kept_if text v = text_if (optional_text v)
kept_if time v = time_if (optional_time v)
kept_if (fixed size) v = fixed_if size (optional_fixed v)
kept_if raw v = some_octets_if (optional_octets v)
kept_if few v = some_octets_if (optional_octets v)
kept_if number v = v
kept_if flag v = v
kept_if members v = v

-- an APDU keeps this value, and it does so for a default's if it keeps the default
abbrev IsKept : Presence Item → Kind → Option Item → Type 0
IsKept always k v = kept k v ≡ v
IsKept optional k v = kept_if k v ≡ v
IsKept (default d) k v = kept k (Some d) ≡ Some d → kept k v ≡ v

there_kept : (k : Kind) (x : Item) (c : List ℕ) → SpellsContents k x c → kept k (Some x) ≡ Some x
there_kept text (a_text t) c s = refl
there_kept number (a_number n) c s = refl
there_kept flag (a_flag b) c s = refl
there_kept time (a_time t) c s = refl
there_kept members (some_members ds) c s = refl
there_kept (fixed size) (a_fixed count n) c s = rw s.0 refl
there_kept raw (some_octets o) c s = refl
there_kept few (some_octets o) c s = refl
there_kept _ _ c s = absurd s

there_kept_if : (k : Kind) (x : Item) (c : List ℕ) → SpellsContents k x c → kept_if k (Some x) ≡ Some x
there_kept_if text (a_text t) c s = refl
there_kept_if number (a_number n) c s = refl
there_kept_if flag (a_flag b) c s = refl
there_kept_if time (a_time t) c s = refl
there_kept_if members (some_members ds) c s = refl
there_kept_if (fixed size) (a_fixed count n) c s = rw s.0 refl
there_kept_if raw (some_octets o) c s = refl
there_kept_if few (some_octets o) c s = refl
there_kept_if _ _ c s = absurd s

absent_kept_if : (k : Kind) → kept_if k None ≡ None
absent_kept_if text = refl
absent_kept_if number = refl
absent_kept_if flag = refl
absent_kept_if time = refl
absent_kept_if members = refl
absent_kept_if (fixed size) = refl
absent_kept_if raw = refl
absent_kept_if few = refl

value_kept : (p : Presence Item) (k : Kind) (x : Item) (c : List ℕ) → SpellsContents k x c → IsKept p k (Some x)
value_kept always k x c s = there_kept k x c s
value_kept optional k x c s = there_kept_if k x c s
value_kept (default d) k x c s = λ _. there_kept k x c s

absence_kept : (p : Presence Item) (k : Kind) (v : Option Item) → AbsenceMeans p v → IsKept p k v
absence_kept always k v means = absurd means
absence_kept optional k v means = rw means (absent_kept_if k)
absence_kept (default d) k v means = λ keeps. rw means keeps

field_kept : (g : Field Kind Item) (v : Option Item) (o : List ℕ) → SpellsField contents_grammar g v o → IsKept g.presence g.kind v
field_kept g v o (filled x c is element spelled) = rw is (value_kept g.presence g.kind x c spelled)
field_kept g v o (left_out means none) = absence_kept g.presence g.kind v means

-- ---- all fields

-- as many values as fields, each of them kept
abbrev AreKept : List (Field Kind Item) → List (Option Item) → Type 0
AreKept [] [] = Unit {0}
AreKept [] (v ∷ vs) = ⊥
AreKept (g ∷ gs) [] = ⊥
AreKept (g ∷ gs) (v ∷ vs) = IsKept g.presence g.kind v × AreKept gs vs

fields_kept : (gs : List (Field Kind Item)) (vs : List (Option Item)) (o : List ℕ) → SpellsFields contents_grammar gs vs o → AreKept gs vs
fields_kept [] [] o s = tt
fields_kept [] (v ∷ vs) o s = absurd s
fields_kept (g ∷ gs) [] o s = absurd s
fields_kept (g ∷ gs) (v ∷ vs) o (a, b, first, more, parts) = (field_kept g v a first, fields_kept gs vs b more)

cons_is : {X : Type 0} {x y : X} {xs ys : List X} → x ≡ y → xs ≡ ys → ◌≡◌ {A = List X} (x ∷ xs) (y ∷ ys)
cons_is first more = ap₂ (λ y ys. y ∷ ys) first more

-- ---- the fields of a GOOSE APDU

-- the count of members, and the members
abbrev counted_items : List Data → List (Option Item)
counted_items ds = Some (a_number (length ds)) ∷ Some (some_members ds) ∷ []

-- values with another count are refused
end_counts : (place : ℕ) (vs us tail : List (Option Item)) → counted_end place vs tail ≡ Ok us → (us ≡ vs) × ((ds : List Data) × (tail ≡ counted_items ds))
end_counts place vs us (Some (a_number n) ∷ Some (some_members ds) ∷ []) is =
    let x = bind_ok (count_at place n ds) (λ _. Ok vs) us is in
    elim (chosen (eqb n (length ds)) _ _ _ x.1) [
      | inl t ↦ (sym (ok_is vs us x.2), (ds, rw (eqb-true n (length ds) t.0) refl))
      | inr t ↦ absurd (let wrong = t.1 in cc)
    ]
end_counts place vs us _ is = absurd (let wrong = is in cc)

counts : (octets : List ℕ) (p e : ℕ) (vs : List (Option Item)) → goose_at octets p e ≡ Ok vs → (ds : List Data) × (drop 10 vs ≡ counted_items ds)
unfolding goose_at
counts octets p e vs is =
    let h = bind_ok (required_at 0x61 octets p e) _ vs is in
    let x = bind_ok (fields_at item_at goose_front [] octets h.0.contents_from h.0.contents_to) _ vs h.2 in
    let y = bind_ok (fields_at item_at goose_end x.0.0 octets x.0.1 h.0.contents_to) _ vs x.2 in
    let i = bind_ok (ends_at y.0.1 h.0.contents_to) _ vs y.2 in
    let j = bind_ok (ends_at h.0.contents_to e) _ vs i.2 in
    let c = end_counts x.0.1 y.0.0 vs (drop 10 y.0.0) j.2 in
    (c.1.0, ap (drop 10) c.0 ∙ c.1.1)

last_kept : (u v : Option Item) (ds : List Data) → ◌≡◌ {A = List (Option Item)} (u ∷ v ∷ []) (counted_items ds) → (Some (a_number (length (members_of v))) ≡ u) × (Some (some_members (members_of v)) ≡ v)
last_kept u v ds is =
    let first : u ≡ Some (a_number (length ds)) = cc in
    let second : v ≡ Some (some_members ds) = cc in
    (rw (first, second) refl, rw second refl)

-- the APDU that the values make up has them
goose_kept : (A : Type 0) (vs : List (Option Item)) → AreKept goose_fields vs → (ds : List Data) → drop 10 vs ≡ counted_items ds → goose_items (pdu_of_items {A = A} vs) ≡ vs
goose_kept A (v0 ∷ v1 ∷ v2 ∷ v3 ∷ v4 ∷ v5 ∷ v6 ∷ v7 ∷ v8 ∷ v9 ∷ v10 ∷ v11 ∷ []) (k0, (k1, (k2, (k3, (k4, (k5, (k6, (k7, (k8, (k9, more)))))))))) ds is =
    let last = last_kept v10 v11 ds is in
    cons_is k0 (cons_is k1 (cons_is k2 (cons_is k3 (cons_is k4 (cons_is k5 (cons_is k6 (cons_is (k7 refl) (cons_is k8 (cons_is (k9 refl) (cons_is last.0 (cons_is last.1 refl)))))))))))
goose_kept A (v0 ∷ v1 ∷ v2 ∷ v3 ∷ v4 ∷ v5 ∷ v6 ∷ v7 ∷ v8 ∷ v9 ∷ v10 ∷ v11 ∷ v12 ∷ vs) k ds is = absurd (k.1.1.1.1.1.1.1.1.1.1.1.1)
goose_kept A (v0 ∷ v1 ∷ v2 ∷ v3 ∷ v4 ∷ v5 ∷ v6 ∷ v7 ∷ v8 ∷ v9 ∷ v10 ∷ []) k ds is = absurd (k.1.1.1.1.1.1.1.1.1.1.1)
goose_kept A (v0 ∷ v1 ∷ v2 ∷ v3 ∷ v4 ∷ v5 ∷ v6 ∷ v7 ∷ v8 ∷ v9 ∷ []) k ds is = absurd (k.1.1.1.1.1.1.1.1.1.1)
goose_kept A (v0 ∷ v1 ∷ v2 ∷ v3 ∷ v4 ∷ v5 ∷ v6 ∷ v7 ∷ v8 ∷ []) k ds is = absurd (k.1.1.1.1.1.1.1.1.1)
goose_kept A (v0 ∷ v1 ∷ v2 ∷ v3 ∷ v4 ∷ v5 ∷ v6 ∷ v7 ∷ []) k ds is = absurd (k.1.1.1.1.1.1.1.1)
goose_kept A (v0 ∷ v1 ∷ v2 ∷ v3 ∷ v4 ∷ v5 ∷ v6 ∷ []) k ds is = absurd (k.1.1.1.1.1.1.1)
goose_kept A (v0 ∷ v1 ∷ v2 ∷ v3 ∷ v4 ∷ v5 ∷ []) k ds is = absurd (k.1.1.1.1.1.1)
goose_kept A (v0 ∷ v1 ∷ v2 ∷ v3 ∷ v4 ∷ []) k ds is = absurd (k.1.1.1.1.1)
goose_kept A (v0 ∷ v1 ∷ v2 ∷ v3 ∷ []) k ds is = absurd (k.1.1.1.1)
goose_kept A (v0 ∷ v1 ∷ v2 ∷ []) k ds is = absurd (k.1.1.1)
goose_kept A (v0 ∷ v1 ∷ []) k ds is = absurd (k.1.1)
goose_kept A (v0 ∷ []) k ds is = absurd (k.1)
goose_kept A [] k ds is = absurd k

-- ---- the fields of ASDUs

asdu_kept : (A : Type 0) (vs : List (Option Item)) → AreKept asdu_fields vs → asdu_items (asdu_of_items {A = A} vs) ≡ vs
asdu_kept A (v0 ∷ v1 ∷ v2 ∷ v3 ∷ v4 ∷ v5 ∷ v6 ∷ v7 ∷ v8 ∷ v9 ∷ []) (k0, (k1, (k2, (k3, (k4, (k5, (k6, (k7, (k8, (k9, more)))))))))) =
    cons_is k0 (cons_is k1 (cons_is k2 (cons_is k3 (cons_is k4 (cons_is k5 (cons_is k6 (cons_is k7 (cons_is k8 (cons_is k9 refl)))))))))
asdu_kept A (v0 ∷ v1 ∷ v2 ∷ v3 ∷ v4 ∷ v5 ∷ v6 ∷ v7 ∷ v8 ∷ v9 ∷ v10 ∷ vs) k = absurd (k.1.1.1.1.1.1.1.1.1.1)
asdu_kept A (v0 ∷ v1 ∷ v2 ∷ v3 ∷ v4 ∷ v5 ∷ v6 ∷ v7 ∷ v8 ∷ []) k = absurd (k.1.1.1.1.1.1.1.1.1)
asdu_kept A (v0 ∷ v1 ∷ v2 ∷ v3 ∷ v4 ∷ v5 ∷ v6 ∷ v7 ∷ []) k = absurd (k.1.1.1.1.1.1.1.1)
asdu_kept A (v0 ∷ v1 ∷ v2 ∷ v3 ∷ v4 ∷ v5 ∷ v6 ∷ []) k = absurd (k.1.1.1.1.1.1.1)
asdu_kept A (v0 ∷ v1 ∷ v2 ∷ v3 ∷ v4 ∷ v5 ∷ []) k = absurd (k.1.1.1.1.1.1)
asdu_kept A (v0 ∷ v1 ∷ v2 ∷ v3 ∷ v4 ∷ []) k = absurd (k.1.1.1.1.1)
asdu_kept A (v0 ∷ v1 ∷ v2 ∷ v3 ∷ []) k = absurd (k.1.1.1.1)
asdu_kept A (v0 ∷ v1 ∷ v2 ∷ []) k = absurd (k.1.1.1)
asdu_kept A (v0 ∷ v1 ∷ []) k = absurd (k.1.1)
asdu_kept A (v0 ∷ []) k = absurd (k.1)
asdu_kept A [] k = absurd k

pub each_kept : (A : Type 0) (vss : List (List (Option Item))) (o : List ℕ) → SpellsEach asdu_grammar 0x30 tt vss o → items_of_each (asdus_of_items {A = A} vss) ≡ vss
each_kept A [] o s = refl
each_kept A (vs ∷ vss) o (c, a, b, element, spelled, more, parts) = cons_is (asdu_kept A vs (fields_kept asdu_fields vs c spelled)) (each_kept A vss b more)

sv_kept : (A : Type 0) (vss : List (List (Option Item))) (o : List ℕ) → SpellsFields sv_grammar sv_fields (both_items (length vss) vss) o → items_of_each (asdus_of_items {A = A} vss) ≡ vss
sv_kept A vss o (a, b, first, (a', b', filled (some_asdus wss) c is element spelled, more, parts'), parts) =
    let same : wss ≡ vss = cc in
    ap (λ (xs : List (List (Option Item))). items_of_each (asdus_of_items {A = A} xs)) (sym same) ∙ each_kept A wss c spelled ∙ same
sv_kept A vss o (a, b, first, (a', b', filled (a_count n) c is element spelled, more, parts'), parts) = absurd spelled
sv_kept A vss o (a, b, first, (a', b', left_out means none, more, parts'), parts) = absurd means

-- ---- APDUs

module _ (octets : List ℕ) (p e : ℕ) (order : p ≤ e) (within : e ≤ length octets) where
  -- the APDU that is read is spelled
  pub value_found : {A : Type 0} (q : GoosePdu A) → goose_value octets p e ≡ Ok q → SpellsGoose q (slice_range octets p e)
  value_found {A = A} q is =
      let x = bind_ok (goose_at octets p e) (λ vs. Ok (pdu_of_items {A = A} vs)) q is in
      let s = goose_found octets p e order within x.0 x.1 in
      let c = counts octets p e x.0 x.1 in
      let same : goose_items q ≡ x.0 = ap goose_items (sym (ok_is (pdu_of_items {A = A} x.0) q x.2)) ∙ goose_kept A x.0 (fields_kept goose_fields x.0 s.0 s.2) c.0 c.1 in
      goose_found octets p e order within (goose_items q) (x.1 ∙ ap (λ (vs : List (Option Item)). Ok vs) (sym same))

  -- the fault that is read is there
  pub value_wrong : {A : Type 0} (f : Fault) → goose_value {A = A} octets p e ≡ Err f → GooseFault f p (slice_range octets p e)
  value_wrong {A = A} f is = goose_wrong octets p e order within f (not_behind (goose_at octets p e) (λ vs. pdu_of_items {A = A} vs) f is)

  pub sv_value_found : {A : Type 0} (q : SvPdu A) → sv_value octets p e ≡ Ok q → SpellsSv q (slice_range octets p e)
  sv_value_found {A = A} q is =
      let x = bind_ok (sv_at octets p e) (λ vss. Ok (record { asdus = asdus_of_items {A = A} vss })) q is in
      let s = sv_found octets p e order within x.0 x.1 in
      let pdu : ◌≡◌ {A = SvPdu A} (record { asdus = asdus_of_items {A = A} x.0 }) q = ok_is _ q x.2 in
      let same : items_of_each q.asdus ≡ x.0 = ap (λ (r : SvPdu A). items_of_each r.asdus) (sym pdu) ∙ sv_kept A x.0 s.0 s.2 in
      sv_spelled octets p e order within q (x.1 ∙ ap (λ (vss : List (List (Option Item))). Ok vss) (sym same))

  pub sv_value_wrong : {A : Type 0} (f : Fault) → sv_value {A = A} octets p e ≡ Err f → SvFault f p (slice_range octets p e)
  sv_value_wrong {A = A} f is = sv_wrong octets p e order within f (not_behind (sv_at octets p e) (λ vss. record { asdus = asdus_of_items {A = A} vss }) f is)

-- The values of the fields of ASDUs make them up, and reading gives the savPdu that is spelled, and the fault that is
-- there.
use Rattle.std.proofs.Common.{◌≡◌, ℕ, ◌≤◌, List, [], ◌∷◌, length, Option, Some, None, Result, Ok, Err, refl, sym, ap, ap₂, ◌∙◌}
use Rattle.std.specs.Prelude.{slice_range}
use Rattle.ber_core.specs.computed.Reading.{◌>>=◌}
use Rattle.ber_core.specs.declared.fault.Fault.{Fault}
use Rattle.mms_data.specs.declared.time.UtcTime.{UtcTime}
use Rattle.pdu_core.specs.Goose.{text_if}
use Rattle.pdu_core.specs.computed.GooseValue.{optional_text}
use Rattle.pdu_core.specs.Asdu.{asdu_items, fixed_if, some_octets_if, time_if}
use Rattle.pdu_core.specs.Contents.{Item}
use Rattle.pdu_core.specs.Sampled.{items_of_each, SpellsSv, SvFault}
use Rattle.pdu_core.specs.computed.SampledReading.{asdus_at}
use Rattle.pdu_core.specs.computed.SampledValue.{asdu_of_items, asdus_in, asdus_of_items, optional_fixed, optional_octets, sv_value, optional_time}
use Rattle.pdu_core.specs.declared.sampled.asdu.Asdu.{Asdu}
use Rattle.pdu_core.specs.declared.sampled.asdu.SvPdu.{SvPdu}
use Rattle.pdu_core.proofs.SvLaws.{sv_again, sv_wrong_again}
use Rattle.pdu_core.proofs.ValueLaws.{text_back}

time_back : (t : Option UtcTime) → optional_time (time_if t) ≡ t
time_back None = refl
time_back (Some t) = refl

fixed_back : (size : ℕ) (n : Option ℕ) → optional_fixed (fixed_if size n) ≡ n
fixed_back size None = refl
fixed_back size (Some n) = refl

octets_back : (o : Option (List ℕ)) → optional_octets (some_octets_if o) ≡ o
octets_back None = refl
octets_back (Some o) = refl

-- an ASDU but for the fields that may be absent
rebuilt : {A : Type 0} (a : Asdu A) (d : Option (List ℕ)) (t : Option UtcTime) (r : Option ℕ) (m n : Option (List ℕ)) → d ≡ a.dat_set → t ≡ a.refr_tm → r ≡ a.smp_rate → m ≡ a.smp_mod → n ≡ a.field_89
    → record a { dat_set = d; refr_tm = t; smp_rate = r; smp_mod = m; field_89 = n } ≡ a
rebuilt a d t r m n ed et er em en = rw (ed, et, er, em, en) refl

-- the values of an ASDU make it up
pub asdu_back : {A : Type 0} (a : Asdu A) → asdu_of_items (asdu_items a) ≡ a
asdu_back a =
    rebuilt a (optional_text (text_if a.dat_set)) (optional_time (time_if a.refr_tm)) (optional_fixed (fixed_if 2 a.smp_rate)) (optional_octets (some_octets_if a.smp_mod)) (optional_octets (some_octets_if a.field_89))
    (text_back a.dat_set) (time_back a.refr_tm) (fixed_back 2 a.smp_rate) (octets_back a.smp_mod) (octets_back a.field_89)

pub asdus_back : {A : Type 0} (xs : List (Asdu A)) → asdus_of_items (items_of_each xs) ≡ xs
asdus_back [] = refl
asdus_back (x ∷ xs) = ap₂ (λ y ys. y ∷ ys) (asdu_back x) (asdus_back xs)

-- so no two lists of ASDUs have the same values
pub asdus_one : {A : Type 0} (xs ys : List (Asdu A)) → items_of_each xs ≡ items_of_each ys → xs ≡ ys
asdus_one xs ys same = sym (asdus_back xs) ∙ ap asdus_of_items same ∙ asdus_back ys

-- whatever memory they are in, the values are the same
pub items_in : (A B : Type 0) (vss : List (List (Option Item))) → items_of_each (asdus_of_items {A = A} vss) ≡ items_of_each (asdus_of_items {A = B} vss)
items_in A B [] = refl
items_in A B (vs ∷ vss) = ap (λ x. asdu_items (asdu_of_items {A = A} vs) ∷ x) (items_in A B vss)

-- where a view's values are the ASDUs that are read, those are the view's
pub asdus_are : {A : Type 0} (octets : List ℕ) (p e : ℕ) (xs : List (Asdu A)) → asdus_at octets p e ≡ Ok (items_of_each xs) → asdus_in octets p e ≡ xs
asdus_are octets p e xs is = rw is (asdus_back xs)

pub pdus_one : {A : Type 0} (p q : SvPdu A) → items_of_each p.asdus ≡ items_of_each q.asdus → p ≡ q
pdus_one {A = A} p q same = ap (λ (xs : List (Asdu A)). record p { asdus = xs }) (asdus_one p.asdus q.asdus same)

module _ (octets : List ℕ) (p e : ℕ) (order : p ≤ e) (within : e ≤ length octets) where
  pub sv_value_again : {A : Type 0} (q : SvPdu A) → SpellsSv q (slice_range octets p e) → sv_value octets p e ≡ Ok q
  sv_value_again {A = A} q spelled =
      ap (λ (r : Result (List (List (Option Item))) Fault). r >>= λ vss. Ok (record { asdus = asdus_of_items {A = A} vss })) (sv_again octets p e order within q spelled) ∙ ap (λ (xs : List (Asdu A)). Ok (record { asdus = xs })) (asdus_back q.asdus)

  pub sv_value_wrong_again : {A : Type 0} (f : Fault) → SvFault f p (slice_range octets p e) → sv_value {A = A} octets p e ≡ Err f
  sv_value_wrong_again {A = A} f wrong =
      ap (λ (r : Result (List (List (Option Item))) Fault). r >>= λ vss. Ok (record { asdus = asdus_of_items {A = A} vss })) (sv_wrong_again octets p e order within f wrong)

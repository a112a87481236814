-- The test of an APDU of Sampled Values passes exactly where the APDU has a spelling.
use Rattle.std.proofs.Common.{◌≡◌, ℕ, ◌^◌, true, leb, List, [], ◌∷◌, length, Option, Some, None, refl}
use Rattle.std.proofs.lemmas.Bool.{and_from, le-leb, leb-true, lt-ltb, ltb-true}
use Rattle.std.specs.List.{AllByRecursion}
use Rattle.std.specs.Prelude.{IfSome}
use Rattle.mms_data.proofs.SpellableLaws.{moment_is, moment_true}
use Rattle.mms_data.specs.Spellable.{IsTime}
use Rattle.mms_data.specs.declared.time.UtcTime.{UtcTime}
use Rattle.pdu_core.specs.SampledSpellable.{AreFew, IsFixed, IsSpellableAsdu, IsSpellableSv}
use Rattle.pdu_core.specs.computed.SampledSpellableTest.{are_few_if, asdus_are_spellable, is_fixed_if, is_asdu_spellable, is_sv_spellable, is_time_if}
use Rattle.pdu_core.specs.declared.sampled.asdu.Asdu.{Asdu}
use Rattle.pdu_core.specs.declared.sampled.asdu.SvPdu.{SvPdu}
use Rattle.pdu_core.proofs.SpellableTests.{both, test_text, test_text_if, text_if_test, text_test}

test_time_if : (t : Option UtcTime) → is_time_if t ≡ true → IfSome t IsTime
test_time_if None e = tt
test_time_if (Some t) e = moment_is t e

time_if_test : (t : Option UtcTime) → IfSome t IsTime → is_time_if t ≡ true
time_if_test None s = refl
time_if_test (Some t) s = moment_true t s

test_fixed_if : (size : ℕ) (n : Option ℕ) → is_fixed_if size n ≡ true → IfSome n (IsFixed size)
test_fixed_if size None e = tt
test_fixed_if size (Some n) e = ltb-true n (256 ^ size) e

fixed_if_test : (size : ℕ) (n : Option ℕ) → IfSome n (IsFixed size) → is_fixed_if size n ≡ true
fixed_if_test size None s = refl
fixed_if_test size (Some n) s = lt-ltb n (256 ^ size) s

test_few_if : (o : Option (List ℕ)) → are_few_if o ≡ true → IfSome o AreFew
test_few_if None e = tt
test_few_if (Some o) e = let b = both (leb 1 (length o)) (leb (length o) 16) e in (leb-true 1 (length o) b.0, leb-true (length o) 16 b.1)

few_if_test : (o : Option (List ℕ)) → IfSome o AreFew → are_few_if o ≡ true
few_if_test None s = refl
few_if_test (Some o) s = and_from _ _ (le-leb 1 (length o) s.0) (le-leb (length o) 16 s.1)

test_spelled_asdu : {A : Type 0} (a : Asdu A) → is_asdu_spellable a ≡ true → IsSpellableAsdu a
test_spelled_asdu a e =
    let t1 = both _ _ e in
    let t2 = both _ _ t1.1 in
    let t3 = both _ _ t2.1 in
    let t4 = both _ _ t3.1 in
    let t5 = both _ _ t4.1 in
    let t6 = both _ _ t5.1 in
    let t7 = both _ _ t6.1 in
    let t8 = both _ _ t7.1 in
    record {
      sv_id = test_text a.sv_id t1.0;
      dat_set = test_text_if a.dat_set t2.0;
      smp_cnt = ltb-true a.smp_cnt (256 ^ 2) t3.0;
      conf_rev = ltb-true a.conf_rev (256 ^ 4) t4.0;
      refr_tm = test_time_if a.refr_tm t5.0;
      smp_synch = ltb-true a.smp_synch (256 ^ 1) t6.0;
      smp_rate = test_fixed_if 2 a.smp_rate t7.0;
      smp_mod = test_few_if a.smp_mod t8.0;
      field_89 = test_few_if a.field_89 t8.1;
    }

spelled_asdu_test : {A : Type 0} (a : Asdu A) → IsSpellableAsdu a → is_asdu_spellable a ≡ true
spelled_asdu_test a s =
    rw (
      text_test a.sv_id s.sv_id,
      text_if_test a.dat_set s.dat_set,
      lt-ltb a.smp_cnt (256 ^ 2) s.smp_cnt,
      lt-ltb a.conf_rev (256 ^ 4) s.conf_rev,
      time_if_test a.refr_tm s.refr_tm,
      lt-ltb a.smp_synch (256 ^ 1) s.smp_synch,
      fixed_if_test 2 a.smp_rate s.smp_rate,
      few_if_test a.smp_mod s.smp_mod,
      few_if_test a.field_89 s.field_89,
    ) refl

test_spelled_asdus : {A : Type 0} (asdus : List (Asdu A)) → asdus_are_spellable asdus ≡ true → AllByRecursion IsSpellableAsdu asdus
test_spelled_asdus [] e = tt
test_spelled_asdus (a ∷ more) e = let b = both (is_asdu_spellable a) (asdus_are_spellable more) e in (test_spelled_asdu a b.0, test_spelled_asdus more b.1)

spelled_asdus_test : {A : Type 0} (asdus : List (Asdu A)) → AllByRecursion IsSpellableAsdu asdus → asdus_are_spellable asdus ≡ true
spelled_asdus_test [] s = refl
spelled_asdus_test (a ∷ more) (first, rest) = and_from _ _ (spelled_asdu_test a first) (spelled_asdus_test more rest)

pub test_spelled_sv : {A : Type 0} (p : SvPdu A) → is_sv_spellable p ≡ true → IsSpellableSv p
test_spelled_sv p e =
    let low = both (leb 1 (length p.asdus)) _ e in
    let high = both (leb (length p.asdus) 65535) (asdus_are_spellable p.asdus) low.1 in
    record { count = (leb-true 1 (length p.asdus) low.0, leb-true (length p.asdus) 65535 high.0); each = test_spelled_asdus p.asdus high.1 }

pub spelled_sv_test : {A : Type 0} (p : SvPdu A) → IsSpellableSv p → is_sv_spellable p ≡ true
spelled_sv_test p s = and_from _ _ (le-leb 1 (length p.asdus) s.count.0) (and_from _ _ (le-leb (length p.asdus) 65535 s.count.1) (spelled_asdus_test p.asdus s.each))

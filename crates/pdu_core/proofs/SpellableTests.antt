-- The test of an APDU passes exactly where the APDU has a spelling.
use Rattle.std.proofs.Common.{◌≡◌, ℕ, ◌^◌, Bool, true, false, ◌&&◌, List, length, Option, Some, None, Result, Ok, Err, refl}
use Rattle.std.proofs.lemmas.Bool.{ltb-true, lt-ltb}
use Rattle.std.specs.Prelude.{IfSome}
use Rattle.ber_core.specs.computed.ContentsReading.{all_visible_at}
use Rattle.ber_core.specs.declared.fault.Fault.{Fault}
use Rattle.ber_core.specs.Contents.{AreVisible}
use Rattle.mms_data.specs.computed.SpellableTest.{is_text, is_text_read}
use Rattle.mms_data.specs.Data.{items_of}
use Rattle.mms_data.proofs.SpellableLaws.{all_is, all_true, moment_is, moment_true}
use Rattle.pdu_core.specs.Spellable.{IsSpellableGoose}
use Rattle.pdu_core.specs.computed.SpellableTest.{are_numbers, are_texts, is_goose_spellable, is_text_if}
use Rattle.pdu_core.specs.declared.goose.GoosePdu.{GoosePdu}
use Rattle.pdu_core.proofs.Texts.{text_is, text_is_not}

pub both : (a b : Bool) → (a && b) ≡ true → (a ≡ true) × (b ≡ true)
both true b e = (refl, e)
both false b e = absurd (cc)

pub test_text : (t : List ℕ) → is_text t ≡ true → AreVisible t
test_text t e = in_case (all_visible_at 0 t) refl e where
  in_case : (r : Result (Unit {0}) Fault) → all_visible_at 0 t ≡ r → is_text_read r ≡ true → AreVisible t
  in_case (Ok u) is passes = text_is t u is
  in_case (Err f) is passes = absurd (cc)

pub text_test : (t : List ℕ) → AreVisible t → is_text t ≡ true
text_test t s = in_case (all_visible_at 0 t) refl where
  in_case : (r : Result (Unit {0}) Fault) → all_visible_at 0 t ≡ r → is_text_read r ≡ true
  in_case (Ok u) is = refl
  in_case (Err f) is = absurd (text_is_not t f is s)

pub test_text_if : (t : Option (List ℕ)) → is_text_if t ≡ true → IfSome t AreVisible
test_text_if None e = tt
test_text_if (Some t) e = test_text t e

pub text_if_test : (t : Option (List ℕ)) → IfSome t AreVisible → is_text_if t ≡ true
text_if_test None s = refl
text_if_test (Some t) s = text_test t s

pub test_spelled : {A : Type 0} (p : GoosePdu A) → is_goose_spellable p ≡ true → IsSpellableGoose p
test_spelled p e =
    let a = both (are_texts p.gocb_ref p.dat_set p.go_id) _ e in
    let b = both (are_numbers p.live p.st_num p.sq_num p.conf_rev (length p.members)) _ a.1 in
    let c = both _ _ b.1 in
    let t1 = both (is_text p.gocb_ref) _ a.0 in
    let t2 = both (is_text p.dat_set) _ t1.1 in
    let n1 = both _ _ b.0 in
    let n2 = both _ _ n1.1 in
    let n3 = both _ _ n2.1 in
    let n4 = both _ _ n3.1 in
    record {
      gocb_ref = test_text p.gocb_ref t1.0;
      live = ltb-true p.live (2 ^ 32) n1.0;
      dat_set = test_text p.dat_set t2.0;
      go_id = test_text_if p.go_id t2.1;
      t = moment_is p.t c.0;
      st_num = ltb-true p.st_num (2 ^ 32) n2.0;
      sq_num = ltb-true p.sq_num (2 ^ 32) n3.0;
      conf_rev = ltb-true p.conf_rev (2 ^ 32) n4.0;
      entries = ltb-true (length p.members) (2 ^ 32) n4.1;
      members = all_is (items_of p.members) 1 c.1;
    }

pub spelled_test : {A : Type 0} (p : GoosePdu A) → IsSpellableGoose p → is_goose_spellable p ≡ true
spelled_test p s =
    rw (
      text_test p.gocb_ref s.gocb_ref,
      text_test p.dat_set s.dat_set,
      text_if_test p.go_id s.go_id,
      lt-ltb p.live (2 ^ 32) s.live,
      lt-ltb p.st_num (2 ^ 32) s.st_num,
      lt-ltb p.sq_num (2 ^ 32) s.sq_num,
      lt-ltb p.conf_rev (2 ^ 32) s.conf_rev,
      lt-ltb (length p.members) (2 ^ 32) s.entries,
      moment_true p.t s.t,
      all_true (items_of p.members) 1 s.members,
    ) refl

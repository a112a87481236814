-- What the frame of a change is written for, and why it is not written.
use Rattle.std.proofs.Common.{◌≡◌, ℕ, ◌<◌, ◌^◌, Result, Ok, Err, length, refl, sym, subst}
use Rattle.std.specs.Prelude.{◌↔◌, IfErr, OnOk, is_ok}
use Rattle.std.proofs.lemmas.Bool.{and_parts}
use Rattle.frame_core.specs.declared.encoding.EncodeFault.{EncodeFault}
use Rattle.frame_core.specs.declared.encoding.EncodeFault.TheVariants as encode
use Rattle.frame_core.specs.Written.{ApduIsSpellable, IsTooLong}
use Rattle.frame_core.specs.computed.WrittenTest.{fits}
use Rattle.pdu_core.specs.declared.goose.GoosePdu.{GoosePdu}
use Rattle.pdu_core.specs.Spellable.{IsSpellableGoose}
use Rattle.pdu_core.specs.computed.SpellableTest.{is_goose_spellable}
use Rattle.pdu_core.proofs.SpellableTests.{test_spelled}
use Rattle.publish_core.specs.declared.control.Control.{Control}
use Rattle.publish_core.specs.Frames.{Change, frame_with}
use Rattle.publish_core.specs.Refusal.{CanBeSpelled}
use Rattle.publish_core.specs.computed.Sizes.{IsEncodeFault}

module _ {A : Type 0} (control : Control A) (change : Change) (state sequence live : ℕ) where
  -- the APDU of the frame
  abbrev pdu : GoosePdu A
  pdu = record {
    gocb_ref = control.gocb_ref;
    live = live;
    dat_set = control.dat_set;
    go_id = control.go_id;
    t = change.t;
    st_num = state;
    sq_num = sequence;
    simulation = control.simulation;
    conf_rev = control.conf_rev;
    nds_com = control.nds_com;
    members = change.values;
  }

  can_be : IsSpellableGoose pdu → CanBeSpelled control change
  can_be s = record { gocb_ref = s.gocb_ref; dat_set = s.dat_set; go_id = s.go_id; t = s.t; values = s.members }

  -- octets are written for what can be spelled
  pub encoded_spelled : {X : Type 0} (result : Result X EncodeFault) → is_ok result ≡ fits (frame_with control change state sequence live) → OnOk result (CanBeSpelled control change)
  encoded_spelled (Err e) same = tt
  encoded_spelled (Ok o) same = can_be (test_spelled pdu (and_parts (is_goose_spellable pdu) _ (sym same)).0)

  module _ (is_state : state < 2 ^ 32) (is_sequence : sequence < 2 ^ 32) (is_live : live < 2 ^ 32) (is_revision : control.conf_rev < 2 ^ 32) (is_count : control.entries < 2 ^ 32) (counted : length change.values ≡ control.entries) where
    spellable : CanBeSpelled control change → IsSpellableGoose pdu
    spellable s = record {
      gocb_ref = s.gocb_ref;
      live = is_live;
      dat_set = s.dat_set;
      go_id = s.go_id;
      t = s.t;
      st_num = is_state;
      sq_num = is_sequence;
      conf_rev = is_revision;
      entries = subst (λ (n : ℕ). n < 2 ^ 32) (sym counted) is_count;
      members = s.values;
    }

    -- why none are written
    pub encode_fault : {X : Type 0} (result : Result X EncodeFault) → ((result ≡ Err encode.NotSpellable) ↔ (¬ ApduIsSpellable (frame_with control change state sequence live).apdu)) →
        ((result ≡ Err encode.TooLong) ↔ (ApduIsSpellable (frame_with control change state sequence live).apdu × IsTooLong (frame_with control change state sequence live))) →
        IfErr result (λ e. IsEncodeFault control change state sequence live e)
    encode_fault (Ok o) none long = tt
    encode_fault (Err encode.NotSpellable) none long = λ s. none.0 refl (spellable s)
    encode_fault (Err encode.TooLong) none long = let l = long.0 refl in (can_be l.0, l.1)

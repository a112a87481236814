-- Where the parts of a frame of GOOSE stand that was seen.
use Rattle.std.proofs.Common.{◌≡◌, ℕ, ◌+◌, ◌-◌, ◌≤◌, Bool, true, false, cond, eqb, List, length, Option, Some, None, sym, ap, ap₂, subst, ◌∙◌, arith}
use Rattle.std.specs.Prelude.{slice_range, is_some}
use Rattle.ber_core.proofs.Regions.{region-length}
use Rattle.pdu_core.specs.Goose.{SpellsGoose}
use Rattle.pdu_core.specs.Views.{pdu_of}
use Rattle.pdu_core.specs.Written.{written_goose}
use Rattle.pdu_core.specs.declared.view.GooseView.{GooseView}
use Rattle.frame_core.specs.Apdu.{SpellsApdu, ether_type_of}
use Rattle.frame_core.specs.Envelope.{apdu_from, apdu_to, ether_place, word_at}
use Rattle.frame_core.specs.Frame.{SpellsFrame}
use Rattle.frame_core.specs.FrameViews.{apdu_of, frame_of}
use Rattle.frame_core.specs.Written.{written_apdu, written_frame}
use Rattle.frame_core.specs.declared.frame_view.ApduView.{ApduView}
use Rattle.frame_core.specs.declared.frame_view.ApduView.TheVariants.{Goose}
use Rattle.frame_core.specs.declared.frame_view.FrameView.{FrameView}
use Rattle.frame_core.specs.declared.vlan_tag.VlanTag.{VlanTag}
use Rattle.frame_core.proofs.EnvelopeLaws.{passes_again}
use Rattle.frame_core.proofs.FrameParts.{behind, has_apdu, known}
use Rattle.repeat_core.specs.Standing.{HasEnvelopeAt}
use Rattle.repeat_core.proofs.WrittenFrames.{apdu_written}

-- the tag decides where the EtherType stands
place_by : (b : Bool) (x : VlanTag) (t : Option VlanTag) → cond b (Some x) None ≡ t → ◌≡◌ {A = ℕ} (cond (is_some t) 16 12) (cond b 16 12)
place_by true x t is = ap (λ (u : Option VlanTag). cond (is_some u) 16 12) (sym is)
place_by false x t is = ap (λ (u : Option VlanTag). cond (is_some u) 16 12) (sym is)

module _ (o : List ℕ) (v : FrameView) (goose : GooseView) (is : v.apdu ≡ Goose goose) (s : SpellsFrame {A = Unit {0}} (frame_of v) o) where
  abbrev pub ether_type : ℕ
  ether_type = cond (is_some v.tag) 16 12

  abbrev pub end : ℕ
  end = length o - length v.trailer.now

  place_is : ether_type ≡ ether_place o
  place_is = place_by (eqb (word_at o 12) 0x8100) (record { control = word_at o 14 }) v.tag (behind (frame_of v) o s).tag

  end_is : end ≡ apdu_to o
  end_is =
      let b = behind (frame_of {A = Unit {0}} v) o s in
      let size : length v.trailer.now ≡ length o - apdu_to o = ap length (sym b.trailer) ∙ region-length o (apdu_to o) (length o) (omega arith) in
      omega (arith, size, b.within)

  pub envelope_seen : HasEnvelopeAt o ether_type end
  envelope_seen = record {
    judged = passes_again o (has_apdu (frame_of {A = Unit {0}} v) o s);
    announced = (behind (frame_of v) o s).ether_type ∙ ap (λ (a : ApduView). ether_type_of {A = Unit {0}} (apdu_of a)) is;
    place_is = place_is;
    end_is = end_is;
  }

  pub order_seen : (ether_type + 10 ≤ end) × (end ≤ length o)
  order_seen = (omega (arith, place_is, end_is, (has_apdu (frame_of {A = Unit {0}} v) o s).low), omega arith)

  pub goose_seen : SpellsGoose {A = Unit {0}} (pdu_of goose) (slice_range o (ether_type + 10) end)
  goose_seen =
      let spelled : SpellsApdu {A = Unit {0}} (apdu_of (Goose goose)) (slice_range o (apdu_from o) (apdu_to o)) =
      subst (λ (a : ApduView). SpellsApdu {A = Unit {0}} (apdu_of a) (slice_range o (apdu_from o) (apdu_to o))) is (known (frame_of {A = Unit {0}} v) o s).spelled in
      subst (λ (k : ℕ). SpellsGoose {A = Unit {0}} (pdu_of goose) (slice_range o (ether_type + 10) k)) (sym end_is) (subst (λ (k : ℕ). SpellsGoose {A = Unit {0}} (pdu_of goose) (slice_range o (k + 10) (apdu_to o))) (sym place_is) spelled)

  -- and where the frame stands in its written form, so does its APDU
  pub written_seen : o ≡ written_frame {A = Unit {0}} (frame_of v) → slice_range o (ether_type + 10) end ≡ written_goose {A = Unit {0}} (pdu_of goose)
  written_seen same =
      let apdu : slice_range o (apdu_from o) (apdu_to o) ≡ written_apdu {A = Unit {0}} (apdu_of v.apdu) = (behind (frame_of {A = Unit {0}} v) o s).apdu ∙ apdu_written (frame_of {A = Unit {0}} v) o s same in
      ap₂ (λ (i j : ℕ). slice_range o (i + 10) j) place_is end_is ∙ apdu ∙ ap (λ (a : ApduView). written_apdu {A = Unit {0}} (apdu_of a)) is

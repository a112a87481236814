-- A frame whose APDU stands in its written form stands in its own.
use Rattle.std.proofs.Common.{◌≡◌, ℕ, ◌+◌, ◌^◌, ◌<◌, true, List, ◌++◌, length, Option, Some, None, Result, Ok, Err, sym, ap, ap₂, subst, ◌∙◌, append_assoc, arith, inl, inr}
use Rattle.std.specs.Prelude.{slice_range, IfOk}
use Rattle.byteorder.specs.Endian.{big_bytes}
use Rattle.byteorder.specs.Numbers.{length-bytes_high_first}
use Rattle.ber_core.specs.declared.fault.Fault.{Fault}
use Rattle.ber_core.specs.Length.{AreOctets, number}
use Rattle.ber_core.proofs.OneSize.{number_one}
use Rattle.ber_core.proofs.Shortest.{big_bytes_octets, number-big_bytes, number_small}
use Rattle.mms_data.proofs.SpelledSpellable.{back_octets, front_octets}
use Rattle.frame_core.specs.Apdu.{ether_type_of}
use Rattle.frame_core.specs.Envelope.{SpellsTag, Word, apdu_from, apdu_to}
use Rattle.frame_core.specs.Frame.{SpellsFrame}
use Rattle.frame_core.specs.FrameViews.{apdu_of, frame_of, is_written}
use Rattle.frame_core.specs.Written.{IsTooLong, written_apdu, written_frame, written_tag, written_word}
use Rattle.frame_core.specs.computed.WrittenTest.{fits}
use Rattle.frame_core.specs.declared.frame.Frame.{Frame}
use Rattle.frame_core.specs.declared.frame_view.FrameView.{FrameView}
use Rattle.frame_core.specs.declared.vlan_tag.VlanTag.{VlanTag}
use Rattle.frame_core.proofs.FrameParts.{behind}
use Rattle.frame_core.proofs.PutLaws.{fits_short}
use Rattle.frame_core.proofs.SpelledSpellable.{frame_spellable}

-- a word is spelled in one way
word_one : (n : ℕ) (o : List ℕ) → AreOctets o → Word n o → o ≡ written_word n
word_one n o small w =
    let held : n < 256 ^ 2 = subst (λ (m : ℕ). m < 256 ^ 2) w.1 (subst (λ (m : ℕ). number o < 256 ^ m) w.0 (number_small o small)) in
    sym (number_one (big_bytes 2 n) o (big_bytes_octets 2 n) small (length-bytes_high_first 2 n ∙ sym w.0) (number-big_bytes 2 n held ∙ sym w.1))

-- and so is a tag
tag_one : (t : Option VlanTag) (o : List ℕ) → AreOctets o → SpellsTag t o → o ≡ written_tag t
tag_one None o small is = is
tag_one (Some tag) o small (a, b, says, control, is) =
    let all = subst AreOctets is small in
    is ∙ ap₂ (λ (x y : List ℕ). x ++ y) (word_one 0x8100 a (front_octets a b all) says) (word_one tag.control b (back_octets a b all) control)

parts_of : (d s t e a l x y r : List ℕ) → d ++ (s ++ (t ++ (e ++ (a ++ (l ++ (x ++ (y ++ r))))))) ≡ (d ++ (s ++ (t ++ (e ++ (a ++ (l ++ (x ++ y))))))) ++ r
parts_of d s t e a l x y r = simp append_assoc

pub frame_one : {A : Type 0} (f : Frame A) (o : List ℕ) → AreOctets o → (s : SpellsFrame f o) → s.apdu ≡ written_apdu f.apdu → o ≡ written_frame f
frame_one f o small s is =
    let h0 = subst AreOctets s.parts small in
    let h1 = back_octets f.destination _ h0 in
    let h2 = back_octets f.source _ h1 in
    let h3 = back_octets s.tag _ h2 in
    let h4 = back_octets s.ether_type _ h3 in
    let h5 = back_octets s.app_id _ h4 in
    let h6 = back_octets s.size _ h5 in
    let h7 = back_octets s.reserved1 _ h6 in
    let t = tag_one f.tag s.tag (front_octets s.tag _ h2) s.tagged in
    let e = word_one (ether_type_of f.apdu) s.ether_type (front_octets s.ether_type _ h3) s.typed in
    let a = word_one f.app_id s.app_id (front_octets s.app_id _ h4) s.addressed in
    let l = word_one (8 + length s.apdu) s.size (front_octets s.size _ h5) s.sized ∙ ap (λ (x : List ℕ). written_word (8 + length x)) is in
    let x = word_one f.reserved1 s.reserved1 (front_octets s.reserved1 _ h6) s.first in
    let y = word_one f.reserved2 s.reserved2 (front_octets s.reserved2 _ h7) s.second in
    let r : s.apdu ++ f.trailer ≡ written_apdu f.apdu ++ f.trailer = ap (λ (c : List ℕ). c ++ f.trailer) is in
    s.parts ∙ parts_of f.destination f.source s.tag s.ether_type s.app_id s.size s.reserved1 s.reserved2 (s.apdu ++ f.trailer)
    ∙ ap₂ (λ (u v : List ℕ). u ++ v) (ap (λ (z : List ℕ). f.destination ++ (f.source ++ z))
    (ap₂ (λ (u v : List ℕ). u ++ v) t (ap₂ (λ (u v : List ℕ). u ++ v) e (ap₂ (λ (u v : List ℕ). u ++ v) a (ap₂ (λ (u v : List ℕ). u ++ v) l (ap₂ (λ (u v : List ℕ). u ++ v) x y)))))) r

-- and it is not too long
frame_fits : {A : Type 0} (f : Frame A) (o : List ℕ) → AreOctets o → (s : SpellsFrame f o) → s.apdu ≡ written_apdu f.apdu → o ≡ written_frame f → fits f ≡ true
frame_fits f o small s is whole = fits_short f (frame_spellable o f small s) few where
  few : IsTooLong f → ⊥
  few (inl more) = omega (arith, more, s.fits, ap length is)
  few (inr more) = omega (arith, more, s.short, ap length whole)

-- the same of a frame that is seen
pub seen_written : (o : List ℕ) → AreOctets o → (r : Result FrameView Fault) → IfOk r (λ v. SpellsFrame {A = Unit {0}} (frame_of v) o)
    → IfOk r (λ v. is_written v.apdu ≡ true → slice_range o (apdu_from o) (apdu_to o) ≡ written_apdu (apdu_of {A = Unit {0}} v.apdu))
    → IfOk r (λ v. is_written v.apdu ≡ true → (o ≡ written_frame (frame_of {A = Unit {0}} v)) × (fits (frame_of {A = Unit {0}} v) ≡ true))
seen_written o small (Ok v) s w = λ t.
    let f = frame_of {A = Unit {0}} v in
    let is : s.apdu ≡ written_apdu f.apdu = sym (behind f o s).apdu ∙ w t in
    let whole = frame_one f o small s is in
    (whole, frame_fits f o small s is whole)
seen_written o small (Err e) s w = tt

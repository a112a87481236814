-- The APDU of a frame that stands in its written form.
use Rattle.std.proofs.Common.{◌≡◌, ℕ, ◌+◌, List, ◌++◌, length, Option, Some, None, sym, ap, ap₂, ◌∙◌, append_assoc, arith}
use Rattle.std.proofs.lemmas.List.{append_cancel_right, length-append}
use Rattle.std.specs.Prelude.{slice_range}
use Rattle.byteorder.specs.Numbers.{length-bytes_high_first}
use Rattle.pdu_core.specs.Written.{written_goose}
use Rattle.frame_core.specs.Apdu.{ether_type_of}
use Rattle.frame_core.specs.Envelope.{SpellsTag, apdu_from, apdu_to}
use Rattle.frame_core.specs.Frame.{SpellsFrame}
use Rattle.frame_core.specs.FrameViews.{apdu_of}
use Rattle.frame_core.specs.Written.{written_apdu, written_frame, written_head, written_tag, written_word}
use Rattle.frame_core.specs.declared.frame.Apdu.{Apdu}
use Rattle.frame_core.specs.declared.frame.Apdu.TheVariants.{Goose}
use Rattle.frame_core.specs.declared.frame.Frame.{Frame}
use Rattle.frame_core.specs.declared.frame_view.ApduView.{ApduView}
use Rattle.frame_core.specs.declared.vlan_tag.VlanTag.{VlanTag}
use Rattle.repeat_core.specs.Noted.{noted_pdu}
use Rattle.repeat_core.specs.Standing.{HasEnvelope}
use Rattle.repeat_core.specs.declared.notes.Notes.{Notes}
use Rattle.repeat_core.proofs.WrittenParts.{apart}

word_size : (n : ℕ) → length (written_word n) ≡ 2
word_size n = length-bytes_high_first 2 n

tag_size : (t : Option VlanTag) (o : List ℕ) → SpellsTag t o → length o ≡ length (written_tag t)
tag_size None o is = ap length is
tag_size (Some tag) o (a, b, says, control, is) =
    omega (arith, ap length is, length-append a b, says.0, control.0, length-append (written_word 0x8100) (written_word tag.control), word_size 0x8100, word_size tag.control)

head_size : (d s t e a l x y : List ℕ) → length (d ++ (s ++ (t ++ (e ++ (a ++ (l ++ (x ++ y))))))) ≡ length d + (length s + (length t + (length e + (length a + (length l + (length x + length y))))))
head_size d s t e a l x y = simp length-append

parts_of : (d s t e a l x y r : List ℕ) → d ++ (s ++ (t ++ (e ++ (a ++ (l ++ (x ++ (y ++ r))))))) ≡ (d ++ (s ++ (t ++ (e ++ (a ++ (l ++ (x ++ y))))))) ++ r
parts_of d s t e a l x y r = simp append_assoc

pub apdu_written : {A : Type 0} (f : Frame A) (o : List ℕ) → (s : SpellsFrame f o) → o ≡ written_frame f → s.apdu ≡ written_apdu f.apdu
apdu_written f o s same =
    let w = written_apdu f.apdu in
    let n = length w in
    let d = f.destination in
    let h = head_size d f.source s.tag s.ether_type s.app_id s.size s.reserved1 s.reserved2 in
    let k = head_size d f.source (written_tag f.tag) (written_word (ether_type_of f.apdu)) (written_word f.app_id) (written_word (8 + n)) (written_word f.reserved1) (written_word f.reserved2) in
    let t = tag_size f.tag s.tag s.tagged in
    let size : length (d ++ (f.source ++ (s.tag ++ (s.ether_type ++ (s.app_id ++ (s.size ++ (s.reserved1 ++ s.reserved2))))))) ≡ length (written_head f n) =
    omega (arith, h, k, t, s.typed.0, s.addressed.0, s.sized.0, s.first.0, s.second.0, word_size (ether_type_of f.apdu), word_size f.app_id, word_size (8 + n), word_size f.reserved1, word_size f.reserved2) in
    let both = apart _ (written_head f n) (s.apdu ++ f.trailer) (w ++ f.trailer) size
    (sym (parts_of d f.source s.tag s.ether_type s.app_id s.size s.reserved1 s.reserved2 (s.apdu ++ f.trailer)) ∙ sym s.parts ∙ same) in
    append_cancel_right s.apdu w f.trailer both.1

-- the APDU of a frame that is shown again
pub apdu_again : (o : List ℕ) (n : Notes) (live sq_num : ℕ) (a : ApduView) → HasEnvelope o n → apdu_of {A = Unit {0}} a ≡ Goose (noted_pdu o n live sq_num)
    → slice_range o (n.ether_type + 10) n.end ≡ written_goose (noted_pdu {A = Unit {0}} o n live sq_num) → slice_range o (apdu_from o) (apdu_to o) ≡ written_apdu (apdu_of {A = Unit {0}} a)
apdu_again o n live sq_num a has is same =
    ap₂ (λ (i j : ℕ). slice_range o (i + 10) j) (sym has.place_is) (sym has.end_is) ∙ same ∙ ap (λ (u : Apdu (Unit {0})). written_apdu u) (sym is)

-- Octets that are alike show the frame that is noted, with the numbers that stand there.
use Rattle.std.proofs.Common.{◌≡◌, ℕ, ◌+◌, ◌≤◌, true, List, ◌∷◌, ◌++◌, length, take, drop, Option, Some, refl, sym, ap, subst, ◌∙◌, arith}
use Rattle.std.proofs.Math.Logic.{∥∥₁_map}
use Rattle.std.proofs.lemmas.Bool.{eqb-false}
use Rattle.std.specs.Prelude.{slice_range}
use Rattle.ber_core.specs.Element.{Elem}
use Rattle.ber_core.specs.Fields.{SpellsFields}
use Rattle.ber_core.specs.Length.{Len}
use Rattle.ber_core.specs.declared.element.Header.{Header}
use Rattle.ber_core.proofs.Regions.{region-length, region-split}
use Rattle.mms_data.specs.computed.Left.{AreMembers, data_in, was_read}
use Rattle.mms_data.specs.computed.Reading.{members_at}
use Rattle.pdu_core.specs.Contents.{Item, a_number, contents_grammar}
use Rattle.pdu_core.specs.Goose.{SpellsGoose, goose_fields, goose_items}
use Rattle.pdu_core.specs.declared.goose.GoosePdu.{GoosePdu}
use Rattle.frame_core.specs.Envelope.{apdu_to, ether_place, word_at}
use Rattle.repeat_core.specs.Alike.{AreAlike}
use Rattle.repeat_core.specs.Noted.{IsPlaced, noted_pdu, part_of}
use Rattle.repeat_core.specs.Standing.{Around, HasFront, HasMembers, Shows, SpellsNumber, Stands, StandsAround}
use Rattle.repeat_core.specs.declared.notes.Notes.{Notes}
use Rattle.repeat_core.proofs.AlikeParts.{high_same, low_same, members_same, middle_same, pdu_same, placed_again}
use Rattle.repeat_core.proofs.Envelopes.{envelope_again}
use Rattle.repeat_core.proofs.Joined.{join_at, number_field_is}
use Rattle.repeat_core.proofs.Truncated.{judged_untruncated, number_untruncated, spelled_untruncated, test_untruncated}

front_again : (id : ℕ) (held octets : List ℕ) (h : Header) → slice_range octets h.at h.contents_from ≡ slice_range held h.at h.contents_from → HasFront id held h → HasFront id octets h
front_again id held octets h same f = record { size = f.size; header = same ∙ f.header; sized = f.sized }

module _ (held octets : List ℕ) (n : Notes) (same : AreAlike held octets n) (placed : IsPlaced (length held) n) where
  around_again : {us vs ws : List (Option Item)} → Around us vs ws held n → Around us vs ws octets n
  around_again {us} {vs} {ws} s = record {
    contents_from = s.contents_from;
    size = s.size;
    begins = s.begins;
    front = s.front;
    header = low_same held octets n same placed (n.ether_type + 10) s.contents_from s.begins (omega (arith, s.front, placed.live)) ∙ s.header;
    sized = s.sized;
    before = subst (SpellsFields contents_grammar (take 1 goose_fields) us) (sym (low_same held octets n same placed s.contents_from n.live.at s.front (omega (arith, placed.live)))) s.before;
    between = subst (SpellsFields contents_grammar (take 4 (drop 2 goose_fields)) vs) (sym (middle_same held octets n same placed n.live.contents_to n.sq_num.at (omega arith) placed.between (omega (arith, placed.sq_num)))) s.between;
    after = subst (SpellsFields contents_grammar (drop 7 goose_fields) ws) (sym (high_same held octets n same placed n.sq_num.contents_to n.end (omega arith) placed.behind (omega arith))) s.after;
    live = front_again 0x81 held octets n.live (low_same held octets n same placed n.live.at n.live.contents_from (omega (arith, placed.live)) (omega arith)) s.live;
    sq_num = front_again 0x86 held octets n.sq_num (middle_same held octets n same placed n.sq_num.at n.sq_num.contents_from placed.between (omega (arith, placed.sq_num)) (omega arith)) s.sq_num;
  }

  members_again : HasMembers held n → HasMembers octets n
  members_again m = record {
    spelled = subst (AreMembers 16) (sym (members_same held octets n same placed)) m.spelled;
    counted = m.counted ∙ ap (λ (o : List ℕ). length (data_in 16 o)) (sym (members_same held octets n same placed));
  }

-- what stands around two numbers, and these
spelled_around : (p : GoosePdu (Unit {0})) (o : List ℕ) (n : Notes) (live sq_num : ℕ) → IsPlaced (length o) n → StandsAround p o n → SpellsNumber live o n.live → SpellsNumber sq_num o n.sq_num
    → SpellsGoose {A = Unit {0}} (record p { live = live; sq_num = sq_num }) (slice_range o (n.ether_type + 10) n.end)
spelled_around p o n live sq_num placed s first second =
    let a = n.live in
    let b = n.sq_num in
    let to_b : b.contents_to ≤ length o = omega (arith, placed.behind, placed.inside) in
    let to_a : a.contents_to ≤ length o = omega (arith, to_b, placed.between, placed.sq_num, placed.sq_num_ends) in
    let behind : s.contents_from ≤ n.end = omega (arith, s.front, placed.live, placed.live_ends, placed.between, placed.sq_num, placed.sq_num_ends, placed.behind) in
    let here = number_field_is 0x81 live o a refl (omega (arith, placed.live)) placed.live_ends to_a s.live first in
    let there = number_field_is 0x86 sq_num o b refl (omega (arith, placed.sq_num)) placed.sq_num_ends to_b s.sq_num second in
    let c = slice_range o s.contents_from n.end in
    let rest = join_at (take 4 (drop 2 goose_fields)) (drop 7 goose_fields) _ (take 4 (drop 2 (goose_items p))) (drop 7 (goose_items p)) (Some (a_number sq_num)) o a.contents_to b.at b.contents_to n.end
    placed.between (omega (arith, placed.sq_num, placed.sq_num_ends)) placed.behind s.between there s.after in
    let all = join_at (take 1 goose_fields) (drop 2 goose_fields) _ (take 1 (goose_items p)) (take 4 (drop 2 (goose_items p)) ++ Some (a_number sq_num) ∷ drop 7 (goose_items p)) (Some (a_number live)) o s.contents_from a.at a.contents_to n.end
    s.front (omega (arith, placed.live, placed.live_ends)) (omega (arith, placed.between, placed.sq_num, placed.sq_num_ends, placed.behind)) s.before here rest in
    let elem : Elem 0x61 c (slice_range o (n.ether_type + 10) n.end) = record {
      identifier = eqb-false 1 31 refl;
      size = s.size;
      sized = subst (λ (k : ℕ). Len k s.size) (sym (region-length o s.contents_from n.end placed.inside)) s.sized;
      parts = region-split o (n.ether_type + 10) s.contents_from n.end s.begins behind ∙ ap (λ (x : List ℕ). x ++ c) s.header;
    } in
    (c, elem, all)

-- what is known of octets that are alike, and the way how
again : (held octets : List ℕ) (n : Notes) (live sq_num : ℕ) → AreAlike held octets n → IsPlaced (length held) n → Stands held n → SpellsNumber live octets n.live → SpellsNumber sq_num octets n.sq_num → Shows octets n live sq_num
again held octets n live sq_num same placed s first second =
    let o = placed_again held octets n same placed in
    let around : StandsAround (noted_pdu held n 0 0) octets n = around_again held octets n same placed s.around in
    record {
      placed = o;
      envelope = envelope_again held octets same.size n.live.contents_from (low_same held octets n same placed) n.ether_type n.end s.envelope (omega (arith, placed.apdu, placed.live));
      members = members_again held octets n same placed s.members;
      spelled = subst (λ (p : GoosePdu (Unit {0})). SpellsGoose p (slice_range octets (n.ether_type + 10) n.end)) (sym (pdu_same held octets n same placed live sq_num)) (spelled_around (noted_pdu held n 0 0) octets n live sq_num o around first second);
    }

-- and without it
shown : (o : List ℕ) (n : Notes) (live sq_num : ℕ) → IsPlaced (length o) n → ∥ Shows o n live sq_num ∥₁ → Shows o n live sq_num
shown o n live sq_num placed t = record {
  placed = placed;
  envelope = record {
    judged = judged_untruncated o (∥∥₁_map t (λ s. s.envelope.judged));
    announced = number_untruncated (word_at o (ether_place o)) 0x88b8 (∥∥₁_map t (λ s. s.envelope.announced));
    place_is = number_untruncated n.ether_type (ether_place o) (∥∥₁_map t (λ s. s.envelope.place_is));
    end_is = number_untruncated n.end (apdu_to o) (∥∥₁_map t (λ s. s.envelope.end_is));
  };
  members = record {
    spelled = test_untruncated (was_read (members_at 16 0 (part_of o n.members))) true (∥∥₁_map t (λ s. s.members.spelled));
    counted = number_untruncated n.entries (length (data_in 16 (part_of o n.members))) (∥∥₁_map t (λ s. s.members.counted));
  };
  spelled = spelled_untruncated (noted_pdu o n live sq_num) (slice_range o (n.ether_type + 10) n.end) (∥∥₁_map t (λ s. s.spelled));
}

pub shown_again : (held octets : List ℕ) (n : Notes) (live sq_num : ℕ) → AreAlike held octets n → IsPlaced (length held) n → ∥ Stands held n ∥₁ → SpellsNumber live octets n.live → SpellsNumber sq_num octets n.sq_num → Shows octets n live sq_num
shown_again held octets n live sq_num same placed t first second =
    shown octets n live sq_num (placed_again held octets n same placed) (∥∥₁_map t (λ s. again held octets n live sq_num same placed s first second))

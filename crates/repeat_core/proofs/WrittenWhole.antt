-- The written form of an APDU, from what stands around two numbers in it and their contents.
use Rattle.std.proofs.Common.{◌≡◌, ℕ, pos, ◌+◌, ◌-◌, ◌≤◌, ◌<◌, ◌^◌, List, [], ◌∷◌, ◌++◌, length, take, drop, Some, sym, ap, ap₂, subst, ◌∙◌, append_assoc, arith}
use Rattle.std.proofs.Math.Logic.{∥∥₁_elim, ∥∥₁_map}
use Rattle.std.proofs.lemmas.List.{append-nil, length-append}
use Rattle.std.specs.Prelude.{slice_range}
use base.Stored.{Coded-set, coded_ℕ, coded_list}
use Rattle.ber_core.specs.Element.{contents_of}
use Rattle.ber_core.specs.Length.{Len}
use Rattle.ber_core.specs.Written.{short_integer, short_length, written_element, written_header}
use Rattle.ber_core.specs.declared.element.Header.{Header}
use Rattle.ber_core.proofs.Regions.{region-length, region-split}
use Rattle.ber_core.proofs.WrittenLemmas.{integer_size_bounds, length-short_integer}
use Rattle.mms_data.proofs.Sizes.{element_size}
use Rattle.pdu_core.specs.Contents.{a_number, a_text, a_time}
use Rattle.pdu_core.specs.Goose.{goose_fields, goose_items, text_if}
use Rattle.pdu_core.specs.Written.{goose_contents, written_field, written_fields, written_goose}
use Rattle.pdu_core.specs.declared.goose.GoosePdu.{GoosePdu}
use Rattle.repeat_core.specs.Alike.{AreAlike}
use Rattle.repeat_core.specs.Noted.{IsPlaced, noted_pdu}
use Rattle.repeat_core.specs.Numbered.{goose_numbered}
use Rattle.repeat_core.specs.Standing.{HasFront, StandsAround}
use Rattle.repeat_core.specs.WrittenAround.{IsWrittenAround, written_before, written_behind, written_between}
use Rattle.repeat_core.specs.declared.notes.Notes.{Notes}
use Rattle.repeat_core.proofs.AlikeParts.{high_same, low_same, middle_same, pdu_same}
use Rattle.repeat_core.proofs.WrittenParts.{element_apart, fields_apart}

-- ---- from a written form

-- the front of an element at a place where a written one begins
front_apart : (id : ℕ) (o : List ℕ) (h : Header) (end : ℕ) (w s : List ℕ) → HasFront id o h → h.at ≤ h.contents_from → h.contents_from ≤ h.contents_to → h.contents_to ≤ end → end ≤ length o → length w < 2 ^ 32
    → slice_range o h.at end ≡ written_element id w ++ s → (slice_range o h.at h.contents_from ≡ written_header id (h.contents_to - h.contents_from)) × (slice_range o h.contents_to end ≡ s)
front_apart id o h end w s front begins order top within small same =
    let c = contents_of o h in
    let r = slice_range o h.contents_to end in
    let count : length c ≡ h.contents_to - h.contents_from = region-length o h.contents_from h.contents_to (omega (arith, top, within)) in
    let parts : slice_range o h.at end ≡ (id ∷ front.size ++ c) ++ r =
    region-split o h.at h.contents_from end begins (omega (arith, order, top)) ∙ ap₂ (λ (x y : List ℕ). x ++ y) front.header (region-split o h.contents_from h.contents_to end order top)
    ∙ ap (λ (x : List ℕ). id ∷ x) (sym (append_assoc front.size c r)) in
    let a = element_apart id id front.size c w r s (subst (λ (k : ℕ). Len k front.size) (sym count) front.sized) small (sym parts ∙ same) in
    (front.header ∙ ap (λ (x : List ℕ). id ∷ x) (a.sized ∙ ap short_length count), a.rest)

number_few : (n : ℕ) → length (short_integer (pos n)) < 2 ^ 32
number_few n = omega (arith, length-short_integer (pos n), integer_size_bounds (pos n))

-- what stands around two numbers in octets that are the written form of an APDU
pub around_written : (p : GoosePdu (Unit {0})) (o : List ℕ) (n : Notes) → IsPlaced (length o) n → length o < 2 ^ 32 → StandsAround p o n → slice_range o (n.ether_type + 10) n.end ≡ written_goose p → IsWrittenAround p o n
around_written p o n placed few s same =
    let at = n.ether_type + 10 in
    let from = s.contents_from in
    let a = n.live in
    let b = n.sq_num in
    let end = n.end in
    let a_end : a.contents_to ≤ end = omega (arith, placed.between, placed.sq_num, placed.sq_num_ends, placed.behind) in
    let a_at : a.at ≤ end = omega (arith, a_end, placed.live, placed.live_ends) in
    let b_at : b.at ≤ end = omega (arith, placed.sq_num, placed.sq_num_ends, placed.behind) in
    let c = slice_range o from end in
    let count : length c ≡ end - from = region-length o from end placed.inside in
    let all : length (slice_range o at end) ≡ end - at = region-length o at end placed.inside in
    let small : length (goose_contents p) < 2 ^ 32 = omega (arith, few, all, placed.inside, ap length same, element_size 0x61 (goose_contents p)) in
    let parts : slice_range o at end ≡ 0x61 ∷ s.size ++ c = region-split o at from end s.begins (omega (arith, s.front, a_at)) ∙ ap (λ (x : List ℕ). x ++ c) s.header in
    let whole = element_apart 0x61 0x61 s.size c (goose_contents p) [] [] (subst (λ (k : ℕ). Len k s.size) (sym count) s.sized) small
    (append-nil (0x61 ∷ s.size ++ c) ∙ sym parts ∙ same ∙ sym (append-nil (written_goose p))) in
    let rest = slice_range o a.at end in
    let u0 : length rest ≡ end - a.at = region-length o a.at end placed.inside in
    let first = fields_apart (take 1 goose_fields) (drop 1 goose_fields) (take 1 (goose_items p)) (drop 1 (goose_items p)) (slice_range o from a.at) rest (tt, tt) s.before small
    (sym (region-split o from a.at end s.front a_at) ∙ whole.contents) in
    let live = front_apart 0x81 o a end (short_integer (pos p.live)) (written_fields (drop 2 goose_fields) (drop 2 (goose_items p))) s.live (omega (arith, placed.live)) placed.live_ends a_end placed.inside (number_few p.live) first.1 in
    let u1 : length (slice_range o a.contents_to end) ≡ end - a.contents_to = region-length o a.contents_to end placed.inside in
    let second = fields_apart (take 4 (drop 2 goose_fields)) (drop 6 goose_fields) (take 4 (drop 2 (goose_items p))) (drop 6 (goose_items p)) (slice_range o a.contents_to b.at) (slice_range o b.at end) (tt, (tt, (tt, (tt, tt)))) s.between
    (omega (arith, few, placed.inside, u1, ap length live.1)) (sym (region-split o a.contents_to b.at end placed.between b_at) ∙ live.1) in
    let sq_num = front_apart 0x86 o b end (short_integer (pos p.sq_num)) (written_fields (drop 7 goose_fields) (drop 7 (goose_items p))) s.sq_num (omega (arith, placed.sq_num)) placed.sq_num_ends placed.behind placed.inside (number_few p.sq_num) second.1 in
    let before : slice_range o from a.contents_from ≡ written_before p n = region-split o from a.at a.contents_from s.front (omega (arith, placed.live)) ∙ ap₂ (λ (x y : List ℕ). x ++ y) first.0 live.0 in
    let held : length (slice_range o from a.contents_from) ≡ a.contents_from - from = region-length o from a.contents_from (omega (arith, placed.live_ends, a_end, placed.inside)) in
    let size : length c ≡ length (written_before p n) + (end - a.contents_from) = omega (arith, count, held, ap length before, placed.live, placed.live_ends, a_end, s.front) in
    record {
      front = region-split o at from a.contents_from s.begins (omega (arith, s.front, placed.live))
          ∙ ap₂ (λ (x y : List ℕ). x ++ y) (s.header ∙ ap (λ (x : List ℕ). 0x61 ∷ x) (whole.sized ∙ ap short_length size)) before;
      middle = region-split o a.contents_to b.at b.contents_from placed.between (omega (arith, placed.sq_num)) ∙ ap₂ (λ (x y : List ℕ). x ++ y) second.0 sq_num.0;
      back = sq_num.1;
    }

-- the same of what is noted of it
pub noted_written : (p : GoosePdu (Unit {0})) (o : List ℕ) (n : Notes) → IsPlaced (length o) n → length o < 2 ^ 32 → StandsAround (noted_pdu o n 0 0) o n → noted_pdu o n 0 0 ≡ goose_numbered 0 0 p
    → slice_range o (n.ether_type + 10) n.end ≡ written_goose p → IsWrittenAround (noted_pdu o n 0 0) o n
noted_written p o n placed few s is same =
    let w = around_written p o n placed few (subst (λ (q : GoosePdu (Unit {0})). StandsAround q o n) is s) same in
    subst (λ (q : GoosePdu (Unit {0})). IsWrittenAround q o n) (sym is) (record { front = w.front; middle = w.middle; back = w.back })

-- ---- in octets that are alike

around_again : (held octets : List ℕ) (n : Notes) (p : GoosePdu (Unit {0})) → AreAlike held octets n → IsPlaced (length held) n → IsWrittenAround p held n → IsWrittenAround p octets n
around_again held octets n p same placed w = record {
  front = low_same held octets n same placed (n.ether_type + 10) n.live.contents_from (omega (arith, placed.apdu, placed.live)) (omega arith) ∙ w.front;
  middle = middle_same held octets n same placed n.live.contents_to n.sq_num.contents_from (omega arith) (omega (arith, placed.between, placed.sq_num)) (omega arith) ∙ w.middle;
  back = high_same held octets n same placed n.sq_num.contents_to n.end (omega arith) placed.behind (omega arith) ∙ w.back;
}

pub written_again : (held octets : List ℕ) (n : Notes) → AreAlike held octets n → IsPlaced (length held) n → ∥ IsWrittenAround (noted_pdu held n 0 0) held n ∥₁ → ∥ IsWrittenAround (noted_pdu octets n 0 0) octets n ∥₁
written_again held octets n same placed t =
    ∥∥₁_map t (λ w. subst (λ (p : GoosePdu (Unit {0})). IsWrittenAround p octets n) (sym (pdu_same held octets n same placed 0 0)) (around_again held octets n (noted_pdu held n 0 0) same placed w))

-- ---- to a written form

contents_joined : (b l i m2 m3 m4 m5 s j z : List ℕ) → b ++ ((l ++ i) ++ (m2 ++ (m3 ++ (m4 ++ (m5 ++ ((s ++ j) ++ z)))))) ≡ ((b ++ []) ++ l) ++ (i ++ (((m2 ++ (m3 ++ (m4 ++ (m5 ++ [])))) ++ s) ++ (j ++ z)))
contents_joined b l i m2 m3 m4 m5 s j z = simp append_assoc

-- the contents of the element 61, about two numbers
contents_around : (p : GoosePdu (Unit {0})) (n : Notes) → length (short_integer (pos p.live)) ≡ n.live.contents_to - n.live.contents_from → length (short_integer (pos p.sq_num)) ≡ n.sq_num.contents_to - n.sq_num.contents_from
    → goose_contents p ≡ written_before p n ++ (short_integer (pos p.live) ++ (written_between p n ++ (short_integer (pos p.sq_num) ++ written_behind p)))
unfolding written_element
contents_around p n first second =
    let i = short_integer (pos p.live) in
    let j = short_integer (pos p.sq_num) in
    let b = written_fields (take 1 goose_fields) (take 1 (goose_items p)) in
    let m = written_fields (take 4 (drop 2 goose_fields)) (take 4 (drop 2 (goose_items p))) in
    let z = written_behind p in
    contents_joined (written_field 0x80 (Some (a_text p.gocb_ref))) (written_header 0x81 (length i)) i
    (written_field 0x82 (Some (a_text p.dat_set))) (written_field 0x83 (text_if p.go_id)) (written_field 0x84 (Some (a_time p.t))) (written_field 0x85 (Some (a_number p.st_num)))
    (written_header 0x86 (length j)) j z
    ∙ ap₂ (λ (k l : ℕ). (b ++ written_header 0x81 k) ++ (i ++ ((m ++ written_header 0x86 l) ++ (j ++ z)))) first second

whole : (o : List ℕ) (n : Notes) (live sq_num : ℕ) → IsPlaced (length o) n → contents_of o n.live ≡ short_integer (pos live) → contents_of o n.sq_num ≡ short_integer (pos sq_num)
    → IsWrittenAround (noted_pdu o n 0 0) o n → slice_range o (n.ether_type + 10) n.end ≡ written_goose (noted_pdu {A = Unit {0}} o n live sq_num)
unfolding written_element
whole o n live sq_num placed first second w =
    let a = n.live in
    let b = n.sq_num in
    let end = n.end in
    let p : GoosePdu (Unit {0}) = noted_pdu o n live sq_num in
    let a_end : a.contents_to ≤ end = omega (arith, placed.between, placed.sq_num, placed.sq_num_ends, placed.behind) in
    let u : length (contents_of o a) ≡ a.contents_to - a.contents_from = region-length o a.contents_from a.contents_to (omega (arith, a_end, placed.inside)) in
    let v : length (contents_of o b) ≡ b.contents_to - b.contents_from = region-length o b.contents_from b.contents_to (omega (arith, placed.behind, placed.inside)) in
    let t = short_integer (pos live) ++ (written_between p n ++ (short_integer (pos sq_num) ++ written_behind p)) in
    let rest : slice_range o a.contents_from end ≡ t =
    region-split o a.contents_from a.contents_to end placed.live_ends a_end
    ∙ ap₂ (λ (x y : List ℕ). x ++ y) first (region-split o a.contents_to b.contents_from end (omega (arith, placed.between, placed.sq_num)) (omega (arith, placed.sq_num_ends, placed.behind))
    ∙ ap₂ (λ (x y : List ℕ). x ++ y) w.middle (region-split o b.contents_from b.contents_to end placed.sq_num_ends placed.behind
    ∙ ap₂ (λ (x y : List ℕ). x ++ y) second w.back)) in
    let contents : goose_contents p ≡ written_before p n ++ t = contents_around p n (sym (ap length first) ∙ u) (sym (ap length second) ∙ v) in
    let count : length (slice_range o a.contents_from end) ≡ end - a.contents_from = region-length o a.contents_from end placed.inside in
    let size : length (goose_contents p) ≡ length (written_before p n) + (end - a.contents_from) =
    ap length contents ∙ length-append (written_before p n) t ∙ ap (λ (k : ℕ). length (written_before p n) + k) (sym (ap length rest) ∙ count) in
    region-split o (n.ether_type + 10) a.contents_from end (omega (arith, placed.apdu, placed.live)) (omega (arith, placed.live_ends, a_end))
    ∙ ap₂ (λ (x y : List ℕ). x ++ y) w.front rest
    ∙ append_assoc (written_header 0x61 (length (written_before p n) + (end - a.contents_from))) (written_before p n) t
    ∙ ap₂ (λ (k : ℕ) (x : List ℕ). written_header 0x61 k ++ x) (sym size) (sym contents)

pub written_whole : (o : List ℕ) (n : Notes) (live sq_num : ℕ) → IsPlaced (length o) n → contents_of o n.live ≡ short_integer (pos live) → contents_of o n.sq_num ≡ short_integer (pos sq_num)
    → ∥ IsWrittenAround (noted_pdu o n 0 0) o n ∥₁ → slice_range o (n.ether_type + 10) n.end ≡ written_goose (noted_pdu {A = Unit {0}} o n live sq_num)
written_whole o n live sq_num placed first second t = ∥∥₁_elim t (Coded-set (coded_list coded_ℕ) _ _) (whole o n live sq_num placed first second)

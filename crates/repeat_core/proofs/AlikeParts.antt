-- Octets that are alike have the same parts, but for two numbers.
use Rattle.std.proofs.Common.{◌≡◌, ℕ, ◌-◌, ◌≤◌, Bool, true, false, List, length, Some, refl, sym, ap, ◌∙◌, arith}
use Rattle.std.specs.Prelude.{slice_range}
use Rattle.ber_core.proofs.Regions.{region-inner}
use Rattle.repeat_core.specs.Alike.{AreAlike}
use Rattle.repeat_core.specs.Noted.{IsBetween, IsPlaced, noted_pdu, part_if, part_of}
use Rattle.repeat_core.specs.declared.notes.Notes.{Notes}
use Rattle.repeat_core.specs.declared.notes.Part.{Part}

pub inner_same : (held octets : List ℕ) (a b c i j : ℕ) → slice_range octets a b ≡ slice_range held a c → a ≤ i → i ≤ j → j ≤ b → j ≤ c → slice_range octets i j ≡ slice_range held i j
inner_same held octets a b c i j same low order high top =
    sym (region-inner octets a b i j low order high) ∙ ap (λ (s : List ℕ). slice_range s (i - a) (j - a)) same ∙ region-inner held a c i j low order top

-- octets that are the same up to sqNum and behind it are alike
pub alike_up_to : (held octets : List ℕ) (n : Notes) → IsPlaced (length held) n → length octets ≡ length held → slice_range octets 0 n.sq_num.contents_from ≡ slice_range held 0 n.sq_num.contents_from
    → slice_range octets n.sq_num.contents_to (length octets) ≡ slice_range held n.sq_num.contents_to (length held) → AreAlike held octets n
alike_up_to held octets n placed size low back =
    let to = n.sq_num.contents_from in
    let behind : n.live.contents_to ≤ to = omega (arith, placed.between, placed.sq_num) in
    record {
      size = size;
      front = inner_same held octets 0 to to 0 n.live.contents_from low (omega arith) (omega arith) (omega (arith, behind, placed.live_ends)) (omega (arith, behind, placed.live_ends));
      middle = inner_same held octets 0 to to n.live.contents_to to low (omega arith) behind (omega arith) (omega arith);
      back = back;
    }

module _ (held octets : List ℕ) (n : Notes) (same : AreAlike held octets n) (placed : IsPlaced (length held) n) where
  pub low_same : (i j : ℕ) → i ≤ j → j ≤ n.live.contents_from → slice_range octets i j ≡ slice_range held i j
  low_same i j order high = inner_same held octets 0 n.live.contents_from n.live.contents_from i j same.front (omega arith) order high high

  pub middle_same : (i j : ℕ) → n.live.contents_to ≤ i → i ≤ j → j ≤ n.sq_num.contents_from → slice_range octets i j ≡ slice_range held i j
  middle_same i j low order high = inner_same held octets n.live.contents_to n.sq_num.contents_from n.sq_num.contents_from i j same.middle low order high high

  pub high_same : (i j : ℕ) → n.sq_num.contents_to ≤ i → i ≤ j → j ≤ n.end → slice_range octets i j ≡ slice_range held i j
  high_same i j low order high =
      inner_same held octets n.sq_num.contents_to (length octets) (length held) i j same.back low order (omega (arith, same.size, placed.inside)) (omega (arith, placed.inside))

  middle_part : (p : Part) → IsBetween n.live.contents_to n.sq_num.at p → part_of octets p ≡ part_of held p
  middle_part p b = middle_same p.from p.to b.begins b.ordered (omega (arith, b.ends, placed.sq_num))

  if_same : (b : Bool) (p : Part) → IsBetween n.live.contents_to n.sq_num.at p → part_if b octets p ≡ part_if b held p
  if_same true p b = ap (λ (o : List ℕ). Some o) (middle_part p b)
  if_same false p b = refl

  pub members_same : part_of octets n.members ≡ part_of held n.members
  members_same = high_same n.members.from n.members.to placed.members.begins placed.members.ordered placed.members.ends

  pub pdu_same : (live sq_num : ℕ) → noted_pdu {A = Unit {0}} octets n live sq_num ≡ noted_pdu held n live sq_num
  pdu_same live sq_num =
      rw (low_same n.gocb_ref.from n.gocb_ref.to placed.gocb_ref.ordered (omega (arith, placed.gocb_ref.ends, placed.live)), middle_part n.dat_set placed.dat_set, if_same n.has_go_id n.go_id placed.go_id, members_same) refl

  pub placed_again : IsPlaced (length octets) n
  placed_again = record {
    apdu = placed.apdu;
    live = placed.live;
    live_ends = placed.live_ends;
    between = placed.between;
    sq_num = placed.sq_num;
    sq_num_ends = placed.sq_num_ends;
    behind = placed.behind;
    inside = omega (arith, placed.inside, same.size);
    gocb_ref = placed.gocb_ref;
    dat_set = placed.dat_set;
    go_id = placed.go_id;
    members = placed.members;
  }

-- Reading members one after the other, as a loop does.
use Rattle.std.proofs.Common.{◌≡◌, ℕ, zero, suc, ◌-◌, ◌≤◌, ◌<◌, List, [], ◌∷◌, ◌++◌, length, drop, Result, Ok, Err, refl, sym, ap, ◌∙◌, append_assoc, arith}
use Rattle.std.proofs.lemmas.List.{append-nil}
use Rattle.std.specs.Prelude.{slice_range}
use Rattle.ber_core.specs.declared.element.Header.{Header}
use Rattle.ber_core.specs.declared.fault.Fault.{Fault}
use Rattle.ber_core.specs.computed.Reading.{◌>>=◌, header_at}
use Rattle.ber_core.proofs.Regions.{region-drop, region-inner, region-length}
use Rattle.mms_data.specs.Data.{Data}
use Rattle.mms_data.specs.computed.Reading.{known_at, contents_within, contents_at, member_with, members_with, member_at, members_at}
use Rattle.mms_data.specs.declared.kinds.Kind.{Kind}

-- what was read before, and what is still read
abbrev pub with_front : List Data → Result (List Data) Fault → Result (List Data) Fault
with_front front read = read >>= λ ds. Ok (front ++ ds)

-- The members up to place are read: with what is still read they are all.
pub record Goes (depth at : ℕ) (octets : List ℕ) (end place : ℕ) (done : List Data) : Type 0 where
  pub turns : ℕ
  pub enough : end - place ≤ turns
  pub order : place ≤ end
  pub all : with_front done (members_with (member_at depth) turns place (slice_range octets place end)) ≡ members_at depth at (slice_range octets at end)

none_before : (r : Result (List Data) Fault) → with_front [] r ≡ r
none_before (Ok ds) = refl
none_before (Err f) = refl

regroup : (front : List Data) (d : Data) (read : Result (List Data) Fault) → with_front front (read >>= λ ds. Ok (d ∷ ds)) ≡ with_front (front ++ d ∷ []) read
regroup front d (Ok ds) = ap (λ (xs : List Data). Ok xs) (simp append_assoc)
regroup front d (Err f) = refl

module _ (member : ℕ → List ℕ → Result (Data × ℕ) Fault) where
  pub one_more : (n p : ℕ) (o : List ℕ) (d : Data) (next : ℕ) → 0 < length o → member p o ≡ Ok (d, next)
      → members_with member (suc n) p o ≡ (members_with member n next (drop (next - p) o) >>= λ ds. Ok (d ∷ ds))
  unfolding members_with
  one_more n p [] d next some e = absurd (omega arith)
  one_more n p (b ∷ bs) d next some e = rw e

  pub fails_here : (n p : ℕ) (o : List ℕ) (f : Fault) → 0 < length o → member p o ≡ Err f → members_with member (suc n) p o ≡ Err f
  unfolding members_with
  fails_here n p [] f some e = absurd (omega arith)
  fails_here n p (b ∷ bs) f some e = rw e

  pub none_left : (n p : ℕ) (o : List ℕ) → length o ≡ 0 → members_with member n p o ≡ Ok []
  unfolding members_with
  none_left zero p [] none = refl
  none_left (suc n) p [] none = refl
  none_left n p (b ∷ bs) none = absurd (omega arith)

module _ (depth at : ℕ) (octets : List ℕ) (end : ℕ) (inside : end ≤ length octets) where
  pub goes_none : at ≤ end → Goes depth at octets end at []
  unfolding members_at
  goes_none order = record {
    turns = length (slice_range octets at end);
    enough = omega (arith, region-length octets at end inside);
    order = order;
    all = none_before _;
  }

  pub goes_on : (place next : ℕ) (done : List Data) (d : Data) → place < end → place < next → next ≤ end → member_at depth place (slice_range octets place end) ≡ Ok (d, next)
      → Goes depth at octets end place done → Goes depth at octets end next (done ++ d ∷ [])
  goes_on place next done d more later order e so_far =
      let turns : so_far.turns ≡ suc (so_far.turns - 1) = omega (arith, so_far.enough) in
      let some : 0 < length (slice_range octets place end) = omega (arith, region-length octets place end inside) in
      let left : drop (next - place) (slice_range octets place end) ≡ slice_range octets next end = region-drop octets place (next - place) end (omega arith) ∙ ap (λ x. slice_range octets x end) (omega arith) in
      let step = one_more (member_at depth) (so_far.turns - 1) place (slice_range octets place end) d next some e in
      let whole : with_front done (members_with (member_at depth) so_far.turns place (slice_range octets place end)) ≡ with_front (done ++ d ∷ []) (members_with (member_at depth) (so_far.turns - 1) next (slice_range octets next end)) =
      ap (λ n. with_front done (members_with (member_at depth) n place (slice_range octets place end))) turns ∙ ap (with_front done) step
      ∙ ap (λ o. with_front done (members_with (member_at depth) (so_far.turns - 1) next o >>= λ ds. Ok (d ∷ ds))) left ∙ regroup done d _ in
      record { turns = so_far.turns - 1; enough = omega (arith, so_far.enough); order = order; all = sym whole ∙ so_far.all }

  pub goes_wrong : (f : Fault) (place : ℕ) (done : List Data) → place < end → member_at depth place (slice_range octets place end) ≡ Err f
      → Goes depth at octets end place done → members_at depth at (slice_range octets at end) ≡ Err f
  goes_wrong f place done more h so_far =
      let turns : so_far.turns ≡ suc (so_far.turns - 1) = omega (arith, so_far.enough) in
      let some : 0 < length (slice_range octets place end) = omega (arith, region-length octets place end inside) in
      sym so_far.all ∙ ap (λ n. with_front done (members_with (member_at depth) n place (slice_range octets place end))) turns ∙ ap (with_front done) (fails_here (member_at depth) (so_far.turns - 1) place (slice_range octets place end) f some h)

  pub goes_all : (place : ℕ) (done : List Data) → end ≤ place → Goes depth at octets end place done → members_at depth at (slice_range octets at end) ≡ Ok done
  goes_all place done over so_far =
      let none : length (slice_range octets place end) ≡ 0 = omega (arith, region-length octets place end inside) in
      sym so_far.all ∙ ap (with_front done) (none_left (member_at depth) so_far.turns place (slice_range octets place end) none) ∙ ap (λ (xs : List Data). Ok xs) (append-nil done)

-- ---- one member, behind its header

module _ (depth at : ℕ) (octets : List ℕ) (end : ℕ) (some : 0 < depth) (k : Kind) (h : Header) (starts : h.at ≡ at) (begins : at < h.contents_from) (order : h.contents_from ≤ h.contents_to) (inside : h.contents_to ≤ end)
    (known : known_at at (slice_range octets at end) ≡ Ok k) (header : header_at at (slice_range octets at end) ≡ Ok h) where
  pub member_there : member_at depth at (slice_range octets at end) ≡ (contents_at (members_at (depth - 1)) k h (slice_range octets h.contents_from h.contents_to) >>= λ d. Ok (d, h.contents_to))
  unfolding member_at member_with members_at
  member_there =
      let n : depth ≡ suc (depth - 1) = omega arith in
      let c : contents_within h (slice_range octets at end) ≡ slice_range octets h.contents_from h.contents_to = rw starts (region-inner octets at end h.contents_from h.contents_to (omega arith) order inside) in
      ap (λ m. member_at m at (slice_range octets at end)) n ∙ rw (known, header, c) refl

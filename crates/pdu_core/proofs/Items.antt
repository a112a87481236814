-- Reading of each kind of contents is sound.
use Rattle.std.proofs.Common.{◌≡◌, ℕ, ℤ, pos, negsuc, ◌-◌, ◌+◌, ◌^◌, ◌≤◌, true, leb, List, Result, Ok, Err, refl, sym, ap, subst, ◌∙◌, arith, inl, inr, rules, length, to_z, of_z, w32, Fits}
use Rattle.std.proofs.lemmas.Bool.{leb-true, le-leb, and_parts, false_from_ne_true}
use Rattle.std.proofs.lemmas.Int.{ints}
use Rattle.std.specs.Borrow.{Bor}
use lib.Dec.{T}
use lib.IntN.{nat_abs}
use lib.Signed.{non_neg}
use mir.Syntax.{w128}
use Rattle.mms_data.specs.Contents.{IsFewOctets}
use Rattle.mms_data.specs.Place.{IsPart}
use Rattle.std.specs.Prelude.{◌≤ℤ◌, ◌&&◌}
use Rattle.byteorder.specs.Endian.{big_number}
use Rattle.ber_core.specs.Faults.{fault_of}
use Rattle.ber_core.specs.declared.fault.Cause.TheVariants as causes
use Rattle.ber_core.specs.computed.ContentsReading.{boolean_at, counted_at, integer_at, visible_at, natural}
use Rattle.ber_core.specs.Contents.{SpellsInteger, CountedFault, IsContents}
use Rattle.ber_core.specs.Element.{contents_of}
use Rattle.ber_core.specs.computed.Reading.{◌>>=◌}
use Rattle.ber_core.specs.declared.element.Header.{Header}
use Rattle.ber_core.specs.declared.fault.Fault.{Fault}
use Rattle.ber_core.proofs.ContentsLaws.{boolean_found, boolean_again, boolean_wrong, boolean_wrong_again, counted_found, counted_again, counted_wrong, counted_wrong_again, integer_found, integer_again, integer_wrong, integer_wrong_again, visible_found, visible_again, visible_wrong, visible_wrong_again}
use Rattle.ber_core.proofs.FieldSound.{IsSound, IsPlaced, err_is}
use Rattle.ber_core.proofs.FieldNested.{ok_is}
use Rattle.ber_core.proofs.Steps.{chosen, bind_ok, bind_err}
use Rattle.mms_data.specs.Data.{Data}
use Rattle.mms_data.specs.Spelling.{SpellsAll, FaultIn}
use Rattle.mms_data.specs.computed.UtcReading.{utc_at}
use Rattle.mms_data.proofs.Found.{all_found}
use Rattle.mms_data.proofs.Again.{all_again}
use Rattle.mms_data.proofs.Wrong.{all_wrong}
use Rattle.mms_data.proofs.WrongAgain.{all_wrong_again}
use Rattle.mms_data.proofs.UtcLaws.{utc_found, utc_again, utc_wrong, utc_wrong_again}
use Rattle.pdu_core.specs.Contents.{Kind, text, number, flag, time, members, fixed, raw, few, Item, a_text, a_number, a_flag, a_time, some_members, a_fixed, some_octets, SpellsFixed, FewFault, SpellsContents, ContentsFault, contents_grammar}
use Rattle.pdu_core.specs.computed.ContentsReading.{number_in, members_in, fixed_in, few_at, item_at}

-- one step behind which nothing fails
pub not_behind : {X Y : Type 0} (r : Result X Fault) (make : X → Y) (f : Fault) → (r >>= λ x. Ok (make x)) ≡ Err f → r ≡ Err f
not_behind r make f e = elim (bind_err r (λ x. Ok (make x)) f e) [
  | inl is ↦ is
  | inr x ↦ absurd (let wrong = x.2 in cc)
]

-- ---- numbers

pub natural_is : (n : ℤ) → pos 0 ≤ℤ n → n ≡ pos (natural n)
natural_is (pos n) h = refl
natural_is (negsuc n) h = absurd (omega (arith, ints))

pub number_found : (octets : List ℕ) (h : Header) (n : ℕ) → number_in octets h ≡ Ok n → SpellsContents number (a_number n) (contents_of octets h)
unfolding number_in
number_found octets h n e =
    let c = contents_of octets h in
    let x = bind_ok (integer_at (pos 0) (pos (2 ^ 32 - 1)) h.at h.contents_from c) (λ z. Ok (natural z)) n e in
    let s = integer_found (pos 0) (pos (2 ^ 32 - 1)) h.at h.contents_from c x.0 x.1 in
    let same : x.0 ≡ pos n = natural_is x.0 s.0 ∙ ap pos (ok_is (natural x.0) n x.2) in
    subst (λ (z : ℤ). SpellsInteger (pos 0) (pos (2 ^ 32 - 1)) z c) same s

number_again : (octets : List ℕ) (h : Header) (n : ℕ) → SpellsContents number (a_number n) (contents_of octets h) → number_in octets h ≡ Ok n
unfolding number_in
number_again octets h n s = rw (integer_again (pos 0) (pos (2 ^ 32 - 1)) h.at h.contents_from (contents_of octets h) (pos n) s) refl

number_wrong : (octets : List ℕ) (h : Header) (f : Fault) → number_in octets h ≡ Err f → ContentsFault f number h.at h.contents_from (contents_of octets h)
unfolding number_in
number_wrong octets h f e =
    let c = contents_of octets h in
    integer_wrong (pos 0) (pos (2 ^ 32 - 1)) h.at h.contents_from c f (not_behind (integer_at (pos 0) (pos (2 ^ 32 - 1)) h.at h.contents_from c) natural f e)

number_wrong_again : (octets : List ℕ) (h : Header) (f : Fault) → ContentsFault f number h.at h.contents_from (contents_of octets h) → number_in octets h ≡ Err f
unfolding number_in
number_wrong_again octets h f w = rw (integer_wrong_again (pos 0) (pos (2 ^ 32 - 1)) h.at h.contents_from (contents_of octets h) f w) refl

-- ---- members

module _ (octets : List ℕ) (h : Header) where
  pub members_found : (ds : List Data) → members_in octets h ≡ Ok ds → SpellsAll ds 1 (contents_of octets h)
  unfolding members_in
  members_found ds e = all_found 16 1 (omega arith) h.contents_from (contents_of octets h) ds e

  pub members_again : (ds : List Data) → SpellsAll ds 1 (contents_of octets h) → members_in octets h ≡ Ok ds
  unfolding members_in
  members_again ds s = all_again 16 1 (omega arith) h.contents_from (contents_of octets h) ds s

  pub members_wrong : (f : Fault) → members_in octets h ≡ Err f → FaultIn f 1 h.contents_from (contents_of octets h)
  unfolding members_in
  members_wrong f e = all_wrong 16 1 f (omega arith) h.contents_from (contents_of octets h) e

  pub members_wrong_again : (f : Fault) → FaultIn f 1 h.contents_from (contents_of octets h) → members_in octets h ≡ Err f
  unfolding members_in
  members_wrong_again f w = all_wrong_again 16 1 f (omega arith) h.contents_from (contents_of octets h) w

-- ---- numbers in a stated count of octets

module _ (size : ℕ) (octets : List ℕ) (h : Header) where
  pub fixed_found : (n : ℕ) → fixed_in size octets h ≡ Ok n → SpellsFixed size n (contents_of octets h)
  unfolding fixed_in
  fixed_found n e =
      let c = contents_of octets h in
      let x = bind_ok (counted_at size h.at c) (λ o. Ok (big_number size o)) n e in
      let s = counted_found size h.at c x.0 x.1 in
      let count : length c ≡ size = ap length s.0 ∙ s.1 in
      (count, ap (λ (k : ℕ). big_number k c) count ∙ ap (big_number size) s.0 ∙ ok_is (big_number size x.0) n x.2)

  pub fixed_again : (n : ℕ) → SpellsFixed size n (contents_of octets h) → fixed_in size octets h ≡ Ok n
  unfolding fixed_in
  fixed_again n s =
      let c = contents_of octets h in
      rw (counted_again size h.at c c (refl, s.0)) (ap (λ (k : ℕ). Ok k) (sym (ap (λ (k : ℕ). big_number k c) s.0) ∙ s.1))

  pub fixed_wrong : (f : Fault) → fixed_in size octets h ≡ Err f → CountedFault f size h.at (contents_of octets h)
  unfolding fixed_in
  fixed_wrong f e =
      let c = contents_of octets h in
      counted_wrong size h.at c f (not_behind (counted_at size h.at c) (big_number size) f e)

  pub fixed_wrong_again : (f : Fault) → CountedFault f size h.at (contents_of octets h) → fixed_in size octets h ≡ Err f
  unfolding fixed_in
  fixed_wrong_again f w = rw (counted_wrong_again size h.at (contents_of octets h) f w) refl

-- ---- one to sixteen octets

few_true : (n : ℕ) → IsFewOctets n → (leb 1 n && leb n 16) ≡ true
few_true n h = rw (le-leb 1 n h.0, le-leb n 16 h.1) refl

few_is : (n : ℕ) → (leb 1 n && leb n 16) ≡ true → IsFewOctets n
few_is n e = let b = and_parts _ _ e in (leb-true _ _ b.0, leb-true _ _ b.1)

module _ (at : ℕ) (c : List ℕ) where
  pub few_found : (o : List ℕ) → few_at at c ≡ Ok o → (c ≡ o) × IsFewOctets (length o)
  unfolding few_at
  few_found o e = elim (chosen (leb 1 (length c) && leb (length c) 16) _ _ _ e) [
    | inl t ↦ let same = ok_is c o t.1 in (same, subst (λ (x : List ℕ). IsFewOctets (length x)) same (few_is (length c) t.0))
    | inr t ↦ absurd (let wrong = t.1 in cc)
  ]

  pub few_again : (o : List ℕ) → (c ≡ o) × IsFewOctets (length o) → few_at at c ≡ Ok o
  unfolding few_at
  few_again o (same, size) = rw (few_true (length c) (subst (λ (x : List ℕ). IsFewOctets (length x)) (sym same) size)) (ap (λ (x : List ℕ). Ok x) same)

  pub few_wrong : (f : Fault) → few_at at c ≡ Err f → FewFault f at c
  unfolding few_at
  few_wrong f e = elim (chosen (leb 1 (length c) && leb (length c) 16) _ _ _ e) [
    | inl t ↦ absurd (let wrong = t.1 in cc)
    | inr t ↦ (λ size. let yes = few_true (length c) size in let no = t.0 in cc, err_is {A = List ℕ} (fault_of (at + 1) causes.FixedLength) f t.1)
  ]

  pub few_wrong_again : (f : Fault) → FewFault f at c → few_at at c ≡ Err f
  unfolding few_at
  few_wrong_again f (n, is) = rw (false_from_ne_true (leb 1 (length c) && leb (length c) 16) (λ t. n (few_is (length c) t)), is) refl

-- ---- all kinds

item_finds : (k : Kind) (octets : List ℕ) (h : Header) (x : Item) → IsPlaced octets h → item_at k octets h ≡ Ok x → SpellsContents k x (contents_of octets h)
item_finds text octets h x placed e =
    let t = bind_ok (visible_at h.contents_from (contents_of octets h)) (λ t. Ok (a_text t)) x e in
    rw (sym (ok_is (a_text t.0) x t.2)) (visible_found h.contents_from (contents_of octets h) t.0 t.1)
item_finds number octets h x placed e =
    let t = bind_ok (number_in octets h) (λ n. Ok (a_number n)) x e in
    rw (sym (ok_is (a_number t.0) x t.2)) (number_found octets h t.0 t.1)
item_finds flag octets h x placed e =
    let t = bind_ok (boolean_at h.at (contents_of octets h)) (λ b. Ok (a_flag b)) x e in
    rw (sym (ok_is (a_flag t.0) x t.2)) (boolean_found h.at (contents_of octets h) t.0 t.1)
item_finds time octets h x placed e =
    let t = bind_ok (utc_at h.at (contents_of octets h)) (λ u. Ok (a_time u)) x e in
    rw (sym (ok_is (a_time t.0) x t.2)) (utc_found h.at (contents_of octets h) t.0 t.1)
item_finds members octets h x placed e =
    let t = bind_ok (members_in octets h) (λ ds. Ok (some_members ds)) x e in
    rw (sym (ok_is (some_members t.0) x t.2)) (members_found octets h t.0 t.1)
item_finds (fixed size) octets h x placed e =
    let t = bind_ok (fixed_in size octets h) (λ n. Ok (a_fixed size n)) x e in
    rw (sym (ok_is (a_fixed size t.0) x t.2)) (refl, fixed_found size octets h t.0 t.1)
item_finds raw octets h x placed e = rw (sym (ok_is (some_octets (contents_of octets h)) x e)) refl
item_finds few octets h x placed e =
    let t = bind_ok (few_at h.at (contents_of octets h)) (λ o. Ok (some_octets o)) x e in
    rw (sym (ok_is (some_octets t.0) x t.2)) (few_found h.at (contents_of octets h) t.0 t.1)

item_again : (k : Kind) (octets : List ℕ) (h : Header) (x : Item) → IsPlaced octets h → SpellsContents k x (contents_of octets h) → item_at k octets h ≡ Ok x
item_again text octets h (a_text t) placed s = rw (visible_again h.contents_from (contents_of octets h) t s) refl
item_again number octets h (a_number n) placed s = rw (number_again octets h n s) refl
item_again flag octets h (a_flag b) placed s = rw (boolean_again h.at (contents_of octets h) b s) refl
item_again time octets h (a_time t) placed s = rw (utc_again h.at (contents_of octets h) t s) refl
item_again members octets h (some_members ds) placed s = rw (members_again octets h ds s) refl
item_again (fixed size) octets h (a_fixed count n) placed (same, s) = rw (fixed_again size octets h n s, same) refl
item_again raw octets h (some_octets o) placed s = ap (λ (x : List ℕ). Ok (some_octets x)) s
item_again few octets h (some_octets o) placed s = rw (few_again h.at (contents_of octets h) o s) refl
item_again _ octets h _ placed s = absurd s

item_wrong : (k : Kind) (octets : List ℕ) (h : Header) (f : Fault) → IsPlaced octets h → item_at k octets h ≡ Err f → ContentsFault f k h.at h.contents_from (contents_of octets h)
item_wrong text octets h f placed e = visible_wrong f h.contents_from (contents_of octets h) (not_behind (visible_at h.contents_from (contents_of octets h)) a_text f e)
item_wrong number octets h f placed e = number_wrong octets h f (not_behind (number_in octets h) a_number f e)
item_wrong flag octets h f placed e = boolean_wrong f h.at (contents_of octets h) (not_behind (boolean_at h.at (contents_of octets h)) a_flag f e)
item_wrong time octets h f placed e = utc_wrong h.at (contents_of octets h) f (not_behind (utc_at h.at (contents_of octets h)) a_time f e)
item_wrong members octets h f placed e = members_wrong octets h f (not_behind (members_in octets h) some_members f e)
item_wrong (fixed size) octets h f placed e = fixed_wrong size octets h f (not_behind (fixed_in size octets h) (a_fixed size) f e)
item_wrong raw octets h f placed e = absurd (let wrong = e in cc)
item_wrong few octets h f placed e = few_wrong h.at (contents_of octets h) f (not_behind (few_at h.at (contents_of octets h)) some_octets f e)

item_wrong_again : (k : Kind) (octets : List ℕ) (h : Header) (f : Fault) → IsPlaced octets h → ContentsFault f k h.at h.contents_from (contents_of octets h) → item_at k octets h ≡ Err f
item_wrong_again text octets h f placed w = rw (visible_wrong_again f h.contents_from (contents_of octets h) w) refl
item_wrong_again number octets h f placed w = rw (number_wrong_again octets h f w) refl
item_wrong_again flag octets h f placed w = rw (boolean_wrong_again f h.at (contents_of octets h) w) refl
item_wrong_again time octets h f placed w = rw (utc_wrong_again h.at (contents_of octets h) f w) refl
item_wrong_again members octets h f placed w = rw (members_wrong_again octets h f w) refl
item_wrong_again (fixed size) octets h f placed w = rw (fixed_wrong_again size octets h f w) refl
item_wrong_again raw octets h f placed w = absurd w
item_wrong_again few octets h f placed w = rw (few_wrong_again h.at (contents_of octets h) f w) refl

pub items_sound : IsSound contents_grammar item_at
items_sound = record { finds = item_finds; again = item_again; wrong = item_wrong; wrong_again = item_wrong_again }

-- an integer that is a number of 32 bits, cast
pub cast_is : (z : ℤ) → pos 0 ≤ℤ z → z ≤ℤ pos (2 ^ 32 - 1) → to_z w128 (of_z w128 z) ≡ z
cast_is z low high = omega (arith, ints)

pub cast_fits : (z : ℤ) → pos 0 ≤ℤ z → z ≤ℤ pos (2 ^ 32 - 1) → T (non_neg (to_z w128 (of_z w128 z))) × Fits w32 (nat_abs (to_z w128 (of_z w128 z)))
cast_fits z low high = rw (cast_is z low high) (fits z low high) where
  fits : (z : ℤ) → pos 0 ≤ℤ z → z ≤ℤ pos (2 ^ 32 - 1) → T (non_neg z) × Fits w32 (nat_abs z)
  fits (pos n) low high = (tt, search (rules, ints))
  fits (negsuc n) low high = absurd (omega (arith, ints))

pub number_cast : (octets : List ℕ) (h : Header) (z : ℤ) → pos 0 ≤ℤ z → z ≤ℤ pos (2 ^ 32 - 1) → integer_at (pos 0) (pos (2 ^ 32 - 1)) h.at h.contents_from (contents_of octets h) ≡ Ok z
    → ◌≡◌ {A = Result ℕ Fault} (Ok (nat_abs (to_z w128 (of_z w128 z)))) (number_in octets h)
unfolding number_in
number_cast octets h z low high is = rw (cast_is z low high, is) (same z low high) where
  same : (z : ℤ) → pos 0 ≤ℤ z → z ≤ℤ pos (2 ^ 32 - 1) → ◌≡◌ {A = Result ℕ Fault} (Ok (nat_abs z)) (Ok (natural z))
  same (pos n) low high = refl
  same (negsuc n) low high = absurd (omega (arith, ints))

-- the contents behind a header are a part of the source
pub part_of_contents : (s source : Bor (List ℕ)) (h : Header) → h.contents_from ≤ h.contents_to → h.contents_to ≤ length source.now → IsContents s source h → IsPart s source
part_of_contents s source h order within is = record { from = h.contents_from; to = h.contents_to; order = order; within = within; block = is.block; place = is.place; octets = is.octets }

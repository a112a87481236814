-- The first of some members.
use Rattle.std.proofs.Common.{◌≡◌, ℕ, zero, suc, ◌-◌, ◌≤◌, ◌<◌, true, List, [], ◌∷◌, length, drop, get_or, Result, Ok, Err, refl, sym, ap, ap₂, subst, ◌∙◌, arith}
use Rattle.std.proofs.lemmas.List.{take_all, length-drop}
use Rattle.std.proofs.lemmas.Bool.{le-ltb}
use Rattle.std.specs.Prelude.{◌==◌, not, slice_range}
use Rattle.ber_core.specs.declared.element.Header.{Header}
use Rattle.ber_core.specs.declared.fault.Fault.{Fault}
use Rattle.ber_core.specs.computed.ContentsReading.{all_visible_at, boolean_at}
use Rattle.ber_core.specs.computed.Reading.{header_at, length_at, ◌>>=◌}
use Rattle.ber_core.proofs.Headers.{low_found}
use Rattle.ber_core.proofs.Steps.{bind_ok, pair_is}
use Rattle.mms_data.specs.Data.{Data, simple, array, boolean, structure, items_of, visible as text_of}
use Rattle.mms_data.specs.computed.ContentsReading.{simple_at}
use Rattle.mms_data.specs.computed.KindReading.{kind_at}
use Rattle.mms_data.specs.computed.Left.{data_or_none, was_read, data_in, AreMembers}
use Rattle.mms_data.specs.computed.Reading.{known_at, contents_within, contents_at, member_with, members_with, member_at, members_at, simple_data_at}
use Rattle.mms_data.specs.Spelling.{SpellsAll, SpellSome}
use Rattle.mms_data.specs.declared.kinds.Kind.{Kind}
use Rattle.mms_data.specs.declared.kinds.Kind.TheVariants.{Array, Structure, Simple as of_kind}
use Rattle.mms_data.specs.declared.kinds.SimpleKind.TheVariants.{Boolean, VisibleString}
use Rattle.mms_data.proofs.KindLaws.{here_found}
use Rattle.mms_data.proofs.Again.{all_again}
use Rattle.mms_data.proofs.Found.{all_found, member_step, member_found, members_found, no_levels}

read_ok : (r : Result (List Data) Fault) → was_read r ≡ true → r ≡ Ok (data_or_none r)
read_ok (Ok ds) e = refl
read_ok (Err f) e = absurd (cc)

-- what is read is the data that stand there
pub read_in : (k : ℕ) (o : List ℕ) → AreMembers k o → members_at k 0 o ≡ Ok (data_in k o)
unfolding data_in
read_in k o e = read_ok (members_at k 0 o) e

pub is_members : (k : ℕ) (o : List ℕ) (ds : List Data) → members_at k 0 o ≡ Ok ds → AreMembers k o × (data_in k o ≡ ds)
unfolding data_in
is_members k o ds e = (rw e refl, rw e refl)

-- members are the same wherever they stand
pub elsewhere : (k p : ℕ) (o : List ℕ) (ds : List Data) → k ≤ 16 → members_at k p o ≡ Ok ds → AreMembers k o × (data_in k o ≡ ds)
elsewhere k p o ds few e =
    let s : SpellsAll ds (17 - k) o = all_found k (17 - k) (omega arith) p o ds e in
    is_members k o ds (all_again k (17 - k) (omega arith) 0 o ds s)

pub spelled_here : (L : ℕ) (o : List ℕ) → 1 ≤ L → L ≤ 17 → SpellSome L o → AreMembers (17 - L) o × SpellsAll (data_in (17 - L) o) L o
spelled_here L o first last h =
    let e = all_again (17 - L) L (omega arith) 0 o h.0 h.1 in
    let m = is_members (17 - L) o h.0 e in
    (m.0, rw m.1 h.1)

-- ---- the first member

-- Members begin with one of this kind that has this header.
pub record Front (k : ℕ) (o : List ℕ) (kind : Kind) (header : Header) : Type 0 where
  pub some_levels : 1 ≤ k
  pub value : Data
  pub contents : contents_at (members_at (k - 1)) kind header (slice_range o header.contents_from header.contents_to) ≡ Ok value
  pub others : AreMembers k (slice_range o header.contents_to (length o))
  pub is : data_in k o ≡ value ∷ data_in k (slice_range o header.contents_to (length o))

-- a member that is read, taken apart
record Read (k : ℕ) (o : List ℕ) (d : Data) (next : ℕ) : Type 0 where
  pub some_levels : 1 ≤ k
  pub kind : Kind
  pub header : Header
  pub announced : known_at 0 o ≡ Ok kind
  pub reads : header_at 0 o ≡ Ok header
  pub contents : contents_at (members_at (k - 1)) kind header (slice_range o header.contents_from header.contents_to) ≡ Ok d
  pub after : next ≡ header.contents_to

at_none : (h : Header) → h.at ≡ 0 → (o : List ℕ) → contents_within h o ≡ slice_range o h.contents_from h.contents_to
at_none h at o =
    let from : h.contents_from - h.at ≡ h.contents_from = omega (arith, at) in
    let to : h.contents_to - h.at ≡ h.contents_to = omega (arith, at) in
    rw (from, to) refl

less_one : (k : ℕ) (P : ℕ → Type 0) → P k → P (suc k - 1)
less_one k P p = let n : suc k - 1 ≡ k = omega arith in subst P (sym n) p

with_read : (k : ℕ) (o : List ℕ) (d : Data) (next : ℕ) → member_with (members_at k) 0 o ≡ Ok (d, next) → Read (suc k) o d next
unfolding member_with
with_read k [] d next e = absurd (cc)
with_read k (id ∷ ls) d next e =
    let x = bind_ok (known_at 0 (id ∷ ls)) _ (d, next) e in
    let kn = here_found 0 id x.0 x.1 in
    let y = bind_ok (header_at 0 (id ∷ ls)) _ (d, next) x.2 in
    let t = low_found 0 id ls y.0 kn.1 y.1 in
    let z = bind_ok (contents_at (members_at k) x.0 y.0 (contents_within y.0 (id ∷ ls))) _ (d, next) y.2 in
    let same = pair_is z.0 d y.0.contents_to next z.2 in
    let at : y.0.at ≡ 0 = ap (λ (h : Header). h.at) t.header in
    record {
      some_levels = omega arith;
      kind = x.0;
      header = y.0;
      announced = x.1;
      reads = y.1;
      contents = less_one k (λ n. contents_at (members_at n) x.0 y.0 (slice_range (id ∷ ls) y.0.contents_from y.0.contents_to) ≡ Ok d) (ap (contents_at (members_at k) x.0 y.0) (sym (at_none y.0 at (id ∷ ls))) ∙ z.1 ∙ ap (λ v. Ok v) (sym same.0));
      after = same.1;
    }

member_read : (k : ℕ) (o : List ℕ) (d : Data) (next : ℕ) → member_at k 0 o ≡ Ok (d, next) → Read k o d next
member_read zero o d next e = absurd (no_levels 0 o (d, next) e)
member_read (suc k) o d next e = with_read k o d next (sym (member_step k 0 o) ∙ e)

rest_is : (o : List ℕ) (n : ℕ) → drop (n - 0) o ≡ slice_range o n (length o)
rest_is o n = let none : n - 0 ≡ n = omega arith in rw none (sym (take_all (length o - n) (drop n o) (omega (arith, length-drop n o))))

members_taken : (k : ℕ) (o : List ℕ) (ds : List Data) → k ≤ 16 → 0 < length o → members_with (member_at k) (length o) 0 o ≡ Ok ds
    → (d : Data) × (next : ℕ) × (member_at k 0 o ≡ Ok (d, next)) × AreMembers k (slice_range o next (length o)) × (ds ≡ d ∷ data_in k (slice_range o next (length o)))
unfolding members_with
members_taken k [] ds few some e = absurd (omega arith)
members_taken k (b ∷ bs) ds few some e =
    let x = bind_ok (member_at k 0 (b ∷ bs)) _ ds e in
    let y = bind_ok (members_with (member_at k) (length bs) x.0.1 (drop (x.0.1 - 0) (b ∷ bs))) _ ds x.2 in
    let left : drop (x.0.1 - 0) (b ∷ bs) ≡ slice_range (b ∷ bs) x.0.1 (length (b ∷ bs)) = rest_is (b ∷ bs) x.0.1 in
    let s : SpellsAll y.0 (17 - k) (drop (x.0.1 - 0) (b ∷ bs)) = members_found (member_at k) (17 - k) (member_found k (17 - k) (omega arith)) (length bs) x.0.1 (drop (x.0.1 - 0) (b ∷ bs)) y.0 y.1 in
    let m = is_members k (slice_range (b ∷ bs) x.0.1 (length (b ∷ bs))) y.0 (all_again k (17 - k) (omega arith) 0 _ y.0 (subst (λ r. SpellsAll y.0 (17 - k) r) left s)) in
    let is : ds ≡ x.0.0 ∷ y.0 = let same = y.2 in cc in
    (x.0.0, x.0.1, x.1, m.0, is ∙ ap (λ (es : List Data). x.0.0 ∷ es) (sym m.1))

-- the kind and the header at the front
record Begins (k : ℕ) (o : List ℕ) : Type 0 where
  pub kind : Kind
  pub header : Header
  pub announced : known_at 0 o ≡ Ok kind
  pub reads : header_at 0 o ≡ Ok header
  pub front : Front k o kind header

front_read : (k : ℕ) (o : List ℕ) (ds : List Data) → k ≤ 16 → 0 < length o → members_at k 0 o ≡ Ok ds → data_in k o ≡ ds → Begins k o
unfolding members_at
front_read k o ds few some e is =
    let t = members_taken k o ds few some e in
    let r = member_read k o t.0 t.1 t.2 in
    record {
      kind = r.kind;
      header = r.header;
      announced = r.announced;
      reads = r.reads;
      front = record {
        some_levels = r.some_levels;
        value = t.0;
        contents = r.contents;
        others = subst (λ n. AreMembers k (slice_range o n (length o))) r.after t.3;
        is = is ∙ t.4 ∙ ap (λ n. t.0 ∷ data_in k (slice_range o n (length o))) r.after;
      };
    }

module _ (k : ℕ) (o : List ℕ) (few : k ≤ 16) (some : 0 < length o) (good : AreMembers k o) where
  begins : Begins k o
  begins = front_read k o (data_in k o) few some (read_in k o good) refl

  pub front_some : 1 ≤ k
  front_some = begins.front.some_levels

  -- its identifier announces a kind
  pub front_known : (kind : Kind) × (known_at 0 o ≡ Ok kind)
  front_known = (begins.kind, begins.announced)

  -- its header can be read
  pub front_reads : (h : Header) × (header_at 0 o ≡ Ok h)
  front_reads = (begins.header, begins.reads)

  pub front : (kind : Kind) (h : Header) → known_at 0 o ≡ Ok kind → header_at 0 o ≡ Ok h → Front k o kind h
  front kind h known e =
      let x = begins in
      let both = sym e ∙ x.reads in
      let same : x.header ≡ h = let back = sym both in cc in
      let kinds = sym known ∙ x.announced in
      let alike : x.kind ≡ kind = let back = sym kinds in cc in
      subst (λ y. Front k o y h) alike (subst (Front k o x.kind) same x.front)

-- the first member, where it is a boolean of three octets
short_boolean : (k n : ℕ) (rest : List ℕ) → k ≤ 16 → AreMembers k (0x83 ∷ 1 ∷ n ∷ rest) → AreMembers k rest × (data_in k (0x83 ∷ 1 ∷ n ∷ rest) ≡ simple (boolean (not (n == 0))) ∷ data_in k rest)
unfolding header_at length_at kind_at simple_at boolean_at
short_boolean k n rest few good =
    let o = 0x83 ∷ 1 ∷ n ∷ rest in
    let h : Header = record { at = 0; identifier = 0x83; contents_from = 2; contents_to = 3 } in
    let f = front k o few (omega arith) good (of_kind Boolean) h refl (rw (le-ltb (length (n ∷ rest)) 1 (omega arith)) refl) in
    let value : f.value ≡ simple (boolean (not (n == 0))) = (let is = f.contents in cc) in
    let behind : slice_range o 3 (length o) ≡ rest = take_all (length o - 3) rest (omega arith) in
    (subst (AreMembers k) behind f.others, f.is ∙ ap₂ (λ (d : Data) (l : List ℕ). d ∷ data_in k l) value behind)

pub boolean_first : (k : ℕ) (o : List ℕ) → k ≤ 16 → AreMembers k o → 3 ≤ length o → get_or o 0 0 ≡ 0x83 → get_or o 1 0 ≡ 1
    → AreMembers k (slice_range o 3 (length o)) × (data_in k o ≡ simple (boolean (not (get_or o 2 0 == 0))) ∷ data_in k (slice_range o 3 (length o)))
boolean_first k [] few good three id one = absurd (omega arith)
boolean_first k (a ∷ []) few good three id one = absurd (omega arith)
boolean_first k (a ∷ b ∷ []) few good three id one = absurd (omega arith)
boolean_first k (a ∷ b ∷ n ∷ rest) few good three id one =
    let o = a ∷ b ∷ n ∷ rest in
    let parts : o ≡ 0x83 ∷ 1 ∷ n ∷ rest = rw (id, one) refl in
    let behind : rest ≡ slice_range o 3 (length o) = sym (take_all (length o - 3) rest (omega arith)) in
    let x = short_boolean k n rest few (subst (AreMembers k) parts good) in
    (subst (AreMembers k) behind x.0, ap (data_in k) parts ∙ x.1 ∙ ap (λ (l : List ℕ). simple (boolean (not (n == 0))) ∷ data_in k l) behind)

-- where nothing is left
pub no_more : (k : ℕ) (o : List ℕ) → length o ≡ 0 → data_in k o ≡ []
unfolding data_in members_at members_with
no_more k [] none = refl
no_more k (b ∷ bs) none = absurd (omega arith)

-- ---- what the contents are

pub array_is : (k : ℕ) (kind : Kind) (h : Header) (c : List ℕ) (d : Data) → k ≤ 16 → kind ≡ Array → contents_at (members_at k) kind h c ≡ Ok d → AreMembers k c × (d ≡ array (items_of (data_in k c)))
array_is k kind h c d few is-kind e =
    let e' : contents_at (members_at k) Array h c ≡ Ok d = ap (λ x. contents_at (members_at k) x h c) (sym is-kind) ∙ e in
    let x = bind_ok (members_at k h.contents_from c) _ d e' in
    let m = elsewhere k h.contents_from c x.0 few x.1 in
    (m.0, let same = x.2 in let is : d ≡ array (items_of x.0) = cc in is ∙ ap (λ ds. array (items_of ds)) (sym m.1))

pub structure_is : (k : ℕ) (kind : Kind) (h : Header) (c : List ℕ) (d : Data) → k ≤ 16 → kind ≡ Structure → contents_at (members_at k) kind h c ≡ Ok d → AreMembers k c × (d ≡ structure (items_of (data_in k c)))
structure_is k kind h c d few is-kind e =
    let e' : contents_at (members_at k) Structure h c ≡ Ok d = ap (λ x. contents_at (members_at k) x h c) (sym is-kind) ∙ e in
    let x = bind_ok (members_at k h.contents_from c) _ d e' in
    let m = elsewhere k h.contents_from c x.0 few x.1 in
    (m.0, let same = x.2 in let is : d ≡ structure (items_of x.0) = cc in is ∙ ap (λ ds. structure (items_of ds)) (sym m.1))

-- octets spell one list of data at most
pub one_value : (L : ℕ) → L ≤ 17 → (o : List ℕ) (ds es : List Data) → SpellsAll ds L o → SpellsAll es L o → ds ≡ es
one_value L last o ds es s t = let both = sym (all_again (17 - L) L (omega arith) 0 o ds s) ∙ all_again (17 - L) L (omega arith) 0 o es t in cc

-- a text that is read is its contents
text_of_read : (c : List ℕ) (d : Data) (r : Result (Unit {0}) Fault) → (((r >>= λ _. Ok c) >>= λ t. Ok (text_of t)) >>= λ v. Ok (simple v)) ≡ Ok d
    → (((r >>= λ _. Ok c) >>= λ t. Ok (text_of t)) >>= λ v. Ok (simple v)) ≡ Ok (simple (text_of c))
text_of_read c d (Ok x) e = refl
text_of_read c d (Err f) e = absurd (cc)

pub visible_is : (p s : ℕ) (c : List ℕ) (d : Data) → simple_data_at VisibleString p s c ≡ Ok d → simple_data_at VisibleString p s c ≡ Ok (simple (text_of c))
unfolding simple_at
visible_is p s c d e = text_of_read c d (all_visible_at s c) e

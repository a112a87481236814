-- What is spelled so is read.
use Rattle.std.proofs.Common.{◌≡◌, ℕ, suc, ◌-◌, ◌+◌, ◌%◌, ◌≤◌, ◌<◌, eqb, false, List, [], ◌∷◌, ◌++◌, length, drop, Result, Ok, refl, ap, ap₂, ◌∙◌, append_assoc, arith}
use Rattle.std.proofs.lemmas.List.{length-append, take_at, drop_at}
use Rattle.ber_core.specs.declared.fault.Fault.{Fault}
use Rattle.ber_core.specs.Length.{Len}
use Rattle.ber_core.specs.Element.{Elem}
use Rattle.ber_core.specs.computed.Reading.{◌>>=◌, header_at}
use Rattle.ber_core.proofs.Headers.{header_for, length_again}
use Rattle.mms_data.specs.Data.{Data, simple, array, structure, Items, no_items, item, items_of}
use Rattle.mms_data.specs.Kinds.{identifier_of, simple_kind}
use Rattle.mms_data.specs.Spelling.{Spells, SpellsItems, SpellsAll}
use Rattle.mms_data.specs.computed.Reading.{contents_within, contents_at, member_with, members_with, member_at, members_at}
use Rattle.mms_data.specs.declared.kinds.Kind.{Kind}
use Rattle.mms_data.specs.declared.kinds.Kind.TheVariants.{Array, Structure, Simple as of_kind}
use Rattle.mms_data.proofs.KindLaws.{low_tag, here_again}
use Rattle.mms_data.proofs.ContentsLaws.{simple_again}
use Rattle.mms_data.proofs.Loop.{one_more, none_left}

-- members as a list of values
abbrev list_of : Items → List Data
list_of no_items = []
list_of (item d ds) = d ∷ list_of ds

-- a list made members, and those a list again, is the same list
list_of-items_of : (ds : List Data) → list_of (items_of ds) ≡ ds
list_of-items_of [] = refl
list_of-items_of (d ∷ ds) = ap (λ (xs : List Data). d ∷ xs) (list_of-items_of ds)

-- members made a list, and that members again, are the same members
items_of-list_of : (ds : Items) → items_of (list_of ds) ≡ ds
items_of-list_of no_items = refl
items_of-list_of (item d ds) = ap (item d) (items_of-list_of ds)

-- the contents of the element at the front
pub contents_again : (p id : ℕ) (size c rest : List ℕ) → contents_within (header_for p id (length size) (length c)) (id ∷ size ++ (c ++ rest)) ≡ c
contents_again p id size c rest =
    let from : (p + 1 + length size) - p ≡ suc (length size) = omega arith in
    let count : (p + 1 + length size + length c) - p - suc (length size) ≡ length c = omega arith in
    rw (from, count, drop_at size (c ++ rest) (length size) refl, take_at c rest (length c) refl) refl

-- an identifier of one octet is no reason to refuse a header
pub header_low : (p id : ℕ) (more : List ℕ) (size c rest : List ℕ) → eqb (id % 32) 31 ≡ false → more ≡ size ++ (c ++ rest) → Len (length c) size → header_at p (id ∷ more) ≡ Ok (header_for p id (length size) (length c))
unfolding header_at
header_low p id more size c rest low parts len = rw (low, parts) (length_again p id size c rest len)

module _ (depth p : ℕ) (k : Kind) (size c rest : List ℕ) (len : Len (length c) size) where
  -- the member of a kind is what its contents are
  pub member_is : member_at (suc depth) p (identifier_of k ∷ size ++ (c ++ rest))
      ≡ (contents_at (members_at depth) k (header_for p (identifier_of k) (length size) (length c)) c >>= λ d. Ok (d, p + 1 + length size + length c))
  unfolding member_at member_with members_at
  member_is = rw (here_again p (identifier_of k) k refl, header_low p (identifier_of k) (size ++ (c ++ rest)) size c rest (low_tag k) refl len, contents_again p (identifier_of k) size c rest) refl

some_levels : (k : ℕ) → 0 < k → k ≡ suc (k - 1)
some_levels k h = omega arith

elem_at : (depth p : ℕ) (k : Kind) (c first rest : List ℕ) → 0 < depth → (e : Elem (identifier_of k) c first)
    → member_at depth p (first ++ rest) ≡ (contents_at (members_at (depth - 1)) k (header_for p (identifier_of k) (length e.size) (length c)) c >>= λ d. Ok (d, p + length first))
elem_at depth p k c first rest some e =
    let whole : first ++ rest ≡ identifier_of k ∷ e.size ++ (c ++ rest) = ap (λ x. x ++ rest) e.parts ∙ ap (λ (x : List ℕ). identifier_of k ∷ x) (append_assoc e.size c rest) in
    let next : p + 1 + length e.size + length c ≡ p + length first = omega (arith, ap length e.parts, length-append e.size c) in
    ap₂ (λ m x. member_at m p x) (some_levels depth some) whole ∙ member_is (depth - 1) p k e.size c rest e.sized
    ∙ ap (λ x. contents_at (members_at (depth - 1)) k (header_for p (identifier_of k) (length e.size) (length c)) c >>= λ d. Ok (d, x)) next

elem_some : (id : ℕ) (c o : List ℕ) → Elem id c o → 0 < length o
elem_some id c o e = omega (arith, ap length e.parts)

-- a spelling has octets
pub spelled_some : (d : Data) (L : ℕ) (o : List ℕ) → Spells d L o → 0 < length o
spelled_some (simple v) L o s = elem_some _ _ o s.2
spelled_some (array ds) L o s = elem_some 161 _ o s.2
spelled_some (structure ds) L o s = elem_some 162 _ o s.2

abbrev with_place : Result Data Fault → ℕ → Result (Data × ℕ) Fault
with_place r x = r >>= λ d. Ok (d, x)

-- what is left behind the front
pub left_over : (o first rest : List ℕ) (p next : ℕ) → o ≡ first ++ rest → next ≡ p + length first → drop (next - p) o ≡ rest
left_over o first rest p next parts after = rw parts (drop_at first rest (next - p) (omega arith))

nested : (k q : ℕ) (ds : Items) (c : List ℕ) (make : Items → Data) (x : ℕ) → members_with (member_at k) (length c) q c ≡ Ok (list_of ds)
    → with_place (members_at k q c >>= λ es. Ok (make (items_of es))) x ≡ Ok (make ds, x)
unfolding members_at
nested k q ds c make x e = rw (e, items_of-list_of ds) refl

mutual
  pub data_again : (d : Data) (L k p : ℕ) (first rest : List ℕ) → L + k ≡ 17 → Spells d L first → member_at k p (first ++ rest) ≡ Ok (d, p + length first)
  data_again (simple v) L k p first rest depth s =
      elem_at k p (of_kind (simple_kind v)) s.1 first rest (omega (arith, s.0)) s.2 ∙ rw (simple_again v p (p + 1 + length s.2.size) s.1 s.3) refl
  data_again (array ds) L k p first rest depth s =
      let inner = items_again ds (L + 1) (k - 1) (length s.1) (p + 1 + length s.2.size) s.1 (omega (arith, s.0)) s.3 (omega arith) in
      elem_at k p Array s.1 first rest (omega (arith, s.0)) s.2 ∙ nested (k - 1) (p + 1 + length s.2.size) ds s.1 array (p + length first) inner
  data_again (structure ds) L k p first rest depth s =
      let inner = items_again ds (L + 1) (k - 1) (length s.1) (p + 1 + length s.2.size) s.1 (omega (arith, s.0)) s.3 (omega arith) in
      elem_at k p Structure s.1 first rest (omega (arith, s.0)) s.2 ∙ nested (k - 1) (p + 1 + length s.2.size) ds s.1 structure (p + length first) inner

  pub items_again : (ds : Items) (L k n p : ℕ) (o : List ℕ) → L + k ≡ 17 → SpellsItems ds L o → length o ≤ n → members_with (member_at k) n p o ≡ Ok (list_of ds)
  items_again no_items L k n p o depth s enough = none_left (member_at k) n p o (ap length s)
  items_again (item d ds) L k n p o depth s enough =
      let first = s.0 in
      let rest = s.1 in
      let size : length o ≡ length first + length rest = ap length s.4 ∙ length-append first rest in
      let some : 0 < length first = spelled_some d L first s.2 in
      let n-is : n ≡ suc (n - 1) = omega arith in
      let one : member_at k p o ≡ Ok (d, p + length first) = ap (member_at k p) s.4 ∙ data_again d L k p first rest depth s.2 in
      let left : drop ((p + length first) - p) o ≡ rest = left_over o first rest p (p + length first) s.4 refl in
      let others : members_with (member_at k) (n - 1) (p + length first) rest ≡ Ok (list_of ds) = items_again ds L k (n - 1) (p + length first) rest depth s.3 (omega arith) in
      ap (λ m. members_with (member_at k) m p o) n-is ∙ one_more (member_at k) (n - 1) p o d (p + length first) (omega arith) one
      ∙ ap (λ x. members_with (member_at k) (n - 1) (p + length first) x >>= λ es. Ok (d ∷ es)) left ∙ ap (λ r. r >>= λ es. Ok (d ∷ es)) others

pub members_at-is : (k p : ℕ) (o : List ℕ) → members_at k p o ≡ members_with (member_at k) (length o) p o
unfolding members_at
members_at-is k p o = refl

-- Members that are spelled are read.
pub all_again : (k L : ℕ) → L + k ≡ 17 → (p : ℕ) (o : List ℕ) (ds : List Data) → SpellsAll ds L o → members_at k p o ≡ Ok ds
all_again k L depth p o ds s = members_at-is k p o ∙ items_again (items_of ds) L k (length o) p o depth s (omega arith) ∙ ap (λ (xs : List Data). Ok xs) (list_of-items_of ds)

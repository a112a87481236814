-- What stands in its written form.
use Rattle.std.proofs.Common.{◌≡◌, ◌+◌, ◌-◌, ◌≤◌, ◌<◌, ◌^◌, ◌*◌, ◌%◌, Bool, true, false, ℕ, zero, suc, List, [], ◌∷◌, ◌++◌, length, take, drop, slice_index, Ok, refl, sym, ap, ap₂, subst, ◌∙◌, append_assoc, arith, inl, inr}
use Rattle.std.proofs.lemmas.List.{append-nil, length-append, take-append-drop}
use Rattle.std.specs.Prelude.{◌⊎◌, nat_eq, slice_index_or, slice_range}
use Rattle.std.proofs.lemmas.Bool.{eqb-true}
use Rattle.std.proofs.Math.Nat.{mod-eq_of_lt, pow-le-pow_right}
use Rattle.byteorder.specs.Endian.{big_bytes}
use Rattle.byteorder.specs.Numbers.{length-bytes_high_first}
use Rattle.ber_core.specs.declared.element.Header.{Header}
use Rattle.ber_core.specs.Element.{Elem, IsHeader, contents_of}
use Rattle.ber_core.specs.Length.{AreOctets, number}
use Rattle.ber_core.specs.Written.{short_length, written_element}
use Rattle.ber_core.proofs.OneSize.{Len_one, number_one}
use Rattle.ber_core.proofs.Regions.{region-length, region-split}
use Rattle.ber_core.proofs.Shortest.{big_bytes_octets, length_shortest, number-big_bytes, number_small}
use Rattle.ber_core.proofs.Steps.{bind_ok}
use Rattle.mms_data.specs.Contents.{SpellsSimple, cleared}
use Rattle.mms_data.specs.Data.{Data, simple, array, structure, items_of, Simple, boolean, bits, integer, unsigned, floating, octets, visible, binary_time, mms_text, utc}
use Rattle.mms_data.specs.computed.ContentsReading.{simple_at}
use Rattle.mms_data.specs.Kinds.{identifier_of, simple_identifier, simple_kind}
use Rattle.mms_data.specs.declared.kinds.SimpleKind.{SimpleKind}
use Rattle.mms_data.specs.declared.kinds.SimpleKind.TheVariants as kinds
use Rattle.mms_data.specs.computed.Reading.{contents_at, known_at, members_at}
use Rattle.mms_data.specs.Utc.{SpellsUtc}
use Rattle.mms_data.specs.Written.{header_size, simple_contents, written, written_all, written_contents, written_time}
use Rattle.mms_data.specs.declared.kinds.Kind.{Kind}
use Rattle.mms_data.specs.declared.kinds.Kind.TheVariants.{Array, Structure, Simple as of_kind}
use Rattle.mms_data.specs.declared.time.UtcTime.{UtcTime}
use Rattle.mms_data.proofs.ContentsLaws.{simple_found}
use Rattle.mms_data.proofs.KindLaws.{here_found}
use Rattle.mms_data.proofs.Least.{contents_small, size_octets}
use Rattle.mms_data.proofs.SpelledSpellable.{front_octets, back_octets}
use Rattle.mms_data.proofs.WrittenSizes.{length_size}

-- ---- elements

pub slice_octets : (o : List ℕ) (from to : ℕ) → AreOctets o → AreOctets (slice_range o from to)
slice_octets o from to small =
    let behind : AreOctets (drop from o) = back_octets (take from o) (drop from o) (subst AreOctets (sym (take-append-drop from o)) small) in
    front_octets (take (to - from) (drop from o)) (drop (to - from) (drop from o)) (subst AreOctets (sym (take-append-drop (to - from) (drop from o))) behind)

-- with the shortest length an element is the written one
element_one : (id : ℕ) (c o : List ℕ) → AreOctets o → Elem id c o → length o ≡ header_size (length c) + length c → o ≡ written_element id c
unfolding written_element
element_one id c o small e size =
    let n = length c in
    let held = size_octets id c o small e in
    let w = length_shortest n (contents_small id c o small e) in
    let same : e.size ≡ short_length n = Len_one n e.size (short_length n) held w.octets e.sized w.spells (omega (arith, size, ap length e.parts, length-append e.size c, length_size n)) in
    e.parts ∙ ap (λ (x : List ℕ). id ∷ x ++ c) same

-- the same of the element behind a header
pub header_one : (all : List ℕ) (at end : ℕ) (h : Header) → AreOctets all → end ≤ length all → IsHeader all at end h → h.at < h.contents_from
    → h.contents_from - h.at ≡ header_size (h.contents_to - h.contents_from) → slice_range all at h.contents_to ≡ written_element h.identifier (contents_of all h)
header_one all at end h small inside is begins short =
    let to : h.contents_to ≤ length all = omega (arith, inside, is.inside) in
    let whole = region-length all at h.contents_to to in
    let part = region-length all h.contents_from h.contents_to to in
    element_one h.identifier (contents_of all h) (slice_range all at h.contents_to) (slice_octets all at h.contents_to small) is.element
    (omega (arith, whole, part, is.here, is.ordered, begins, short, ap header_size part))

-- ---- times

pub time_one : (t : UtcTime) (c : List ℕ) → AreOctets c → SpellsUtc t c → written_time t ≡ c
time_one t c small (seconds, fraction, four, three, s, f, parts) =
    let tail = fraction ++ t.quality ∷ [] in
    let all : AreOctets (seconds ++ tail) = subst AreOctets parts small in
    let a : AreOctets seconds = front_octets seconds tail all in
    let b : AreOctets fraction = front_octets fraction (t.quality ∷ []) (back_octets seconds tail all) in
    let many : t.seconds < 256 ^ 4 = subst (λ (n : ℕ). n < 256 ^ 4) s (subst (λ (n : ℕ). number seconds < 256 ^ n) four (number_small seconds a)) in
    let few : t.fraction < 256 ^ 3 = subst (λ (n : ℕ). n < 256 ^ 3) f (subst (λ (n : ℕ). number fraction < 256 ^ n) three (number_small fraction b)) in
    let x : big_bytes 4 t.seconds ≡ seconds = number_one (big_bytes 4 t.seconds) seconds (big_bytes_octets 4 t.seconds) a (length-bytes_high_first 4 t.seconds ∙ sym four) (number-big_bytes 4 t.seconds many ∙ sym s) in
    let y : big_bytes 3 t.fraction ≡ fraction = number_one (big_bytes 3 t.fraction) fraction (big_bytes_octets 3 t.fraction) b (length-bytes_high_first 3 t.fraction ∙ sym three) (number-big_bytes 3 t.fraction few ∙ sym f) in
    ap₂ (λ (u v : List ℕ). u ++ (v ++ t.quality ∷ [])) x y ∙ sym parts

-- ---- bits

last_clear : (u : ℕ) (o : List ℕ) (n : ℕ) → length o ≡ suc n → slice_index o n % 2 ^ u ≡ 0 → cleared u o ≡ o
last_clear u [] n size e = absurd (omega arith)
last_clear u (x ∷ []) n size e =
    let none : n ≡ 0 = omega arith in
    let zero : x % 2 ^ u ≡ 0 = sym (ap (λ (i : ℕ). slice_index (x ∷ []) i % 2 ^ u) none) ∙ e in
    ap (λ (y : ℕ). y ∷ []) (let same : x - x % 2 ^ u ≡ x = omega (arith, zero) in same)
last_clear u (x ∷ y ∷ ys) zero size e = absurd (omega arith)
last_clear u (x ∷ y ∷ ys) (suc n) size e = ap (λ (l : List ℕ). x ∷ l) (last_clear u (y ∷ ys) n (omega arith) e)

pub bits_are : (v : Simple) (c : List ℕ) → simple_kind v ≡ kinds.BitString → 2 ≤ length c → SpellsSimple v c
    → nat_eq (slice_index_or c (length c - 1) 0 % (1 * 2 ^ slice_index_or c 0 0 % 256)) 0 ≡ true → c ≡ simple_contents v
bits_are (bits unused ns) [] k some h = absurd h
bits_are (bits unused ns) (count ∷ []) k some h = absurd (omega (arith, some))
bits_are (bits unused ns) (count ∷ x ∷ xs) k some h =
    let o = x ∷ xs in
    let n = length xs in
    let low : count ≤ 7 = h.1 in
    let at : length (count ∷ o) - 1 ≡ suc n = omega arith in
    let places : 2 ^ count ≤ 2 ^ 7 = pow-le-pow_right (let some : 0 < 2 = omega arith in some) low in
    let mask : 1 * 2 ^ count % 256 ≡ 2 ^ count = ap (λ (m : ℕ). m % 256) (let one : 1 * 2 ^ count ≡ 2 ^ count = omega arith in one) ∙ mod-eq_of_lt (omega (arith, places)) in
    rw (at, mask) (λ t. ap₂ (λ (a : ℕ) (b : List ℕ). a ∷ b) h.0 (sym (h.2 ∙ last_clear count o n refl (eqb-true _ _ t))))
bits_are (boolean b) c k some h = absurd (let wrong = k in cc)
bits_are (integer n) c k some h = absurd (let wrong = k in cc)
bits_are (unsigned n) c k some h = absurd (let wrong = k in cc)
bits_are (floating ns) c k some h = absurd (let wrong = k in cc)
bits_are (octets ns) c k some h = absurd (let wrong = k in cc)
bits_are (visible ns) c k some h = absurd (let wrong = k in cc)
bits_are (binary_time ns) c k some h = absurd (let wrong = k in cc)
bits_are (mms_text ns) c k some h = absurd (let wrong = k in cc)
bits_are (utc t) c k some h = absurd (let wrong = k in cc)

-- ---- contents that are kept as they are

abbrev pub IsKept : SimpleKind → Type 0
IsKept k = (k ≡ kinds.FloatingPoint) ⊎ ((k ≡ kinds.OctetString) ⊎ ((k ≡ kinds.VisibleString) ⊎ ((k ≡ kinds.BinaryTime) ⊎ ((k ≡ kinds.MmsString) ⊎ (k ≡ kinds.UtcTime)))))

is_kept : SimpleKind → Bool
is_kept kinds.Boolean = false
is_kept kinds.BitString = false
is_kept kinds.Integer = false
is_kept kinds.Unsigned = false
is_kept kinds.FloatingPoint = true
is_kept kinds.OctetString = true
is_kept kinds.VisibleString = true
is_kept kinds.BinaryTime = true
is_kept kinds.MmsString = true
is_kept kinds.UtcTime = true

kept_true : (k : SimpleKind) → IsKept k → is_kept k ≡ true
unfolding is_kept
kept_true k (inl e) = ap is_kept e
kept_true k (inr (inl e)) = ap is_kept e
kept_true k (inr (inr (inl e))) = ap is_kept e
kept_true k (inr (inr (inr (inl e)))) = ap is_kept e
kept_true k (inr (inr (inr (inr (inl e))))) = ap is_kept e
kept_true k (inr (inr (inr (inr (inr e))))) = ap is_kept e

kept_is : (v : Simple) (c : List ℕ) → AreOctets c → is_kept (simple_kind v) ≡ true → SpellsSimple v c → c ≡ simple_contents v
unfolding is_kept
kept_is (boolean b) c small k h = absurd (let wrong = k in cc)
kept_is (bits unused ns) c small k h = absurd (let wrong = k in cc)
kept_is (integer n) c small k h = absurd (let wrong = k in cc)
kept_is (unsigned n) c small k h = absurd (let wrong = k in cc)
kept_is (floating ns) c small k h = h.0
kept_is (octets ns) c small k h = h
kept_is (visible ns) c small k h = h.0
kept_is (binary_time ns) c small k h = h.0
kept_is (mms_text ns) c small k h = h
kept_is (utc t) c small k h = sym (time_one t c small h)

pub kept : (k : SimpleKind) → IsKept k → (v : Simple) (c : List ℕ) → AreOctets c → simple_kind v ≡ k → SpellsSimple v c → c ≡ simple_contents v
kept k is v c small same h = kept_is v c small (ap is_kept same ∙ kept_true k is) h

-- ---- members

-- the value of the contents
pub written_is : (k : ℕ) (kind : Kind) (h : Header) (c : List ℕ) (d : Data) → contents_at (members_at k) kind h c ≡ Ok d → written d ≡ written_element (identifier_of kind) (written_contents d)
unfolding simple_at
written_is k Array h c d e = let x = bind_ok (members_at k h.contents_from c) _ d e in let is : d ≡ array (items_of x.0) = (let same = x.2 in cc) in rw is refl
written_is k Structure h c d e = let x = bind_ok (members_at k h.contents_from c) _ d e in let is : d ≡ structure (items_of x.0) = (let same = x.2 in cc) in rw is refl
written_is k (of_kind kind) h c d e =
    let x = bind_ok (simple_at kind h.at h.contents_from c) _ d e in
    let is : d ≡ simple x.0 = (let same = x.2 in cc) in
    let held = simple_found kind h.at h.contents_from c x.0 x.1 in
    rw is (ap (λ (j : SimpleKind). written_element (simple_identifier j) (simple_contents x.0)) held.kind)

-- contents of an array or a structure
pub nested_are : (k : ℕ) (kind : Kind) (h : Header) (c : List ℕ) (d : Data) → (kind ≡ Array) ⊎ (kind ≡ Structure) → contents_at (members_at k) kind h c ≡ Ok d
    → ((ds : List Data) → members_at k h.contents_from c ≡ Ok ds → c ≡ written_all ds) → c ≡ written_contents d
nested_are k kind h c d (inl is) e law =
    let x = bind_ok (members_at k h.contents_from c) _ d (ap (λ y. contents_at (members_at k) y h c) (sym is) ∙ e) in
    let same : d ≡ array (items_of x.0) = (let both = x.2 in cc) in
    law x.0 x.1 ∙ ap written_contents (sym same)
nested_are k kind h c d (inr is) e law =
    let x = bind_ok (members_at k h.contents_from c) _ d (ap (λ y. contents_at (members_at k) y h c) (sym is) ∙ e) in
    let same : d ≡ structure (items_of x.0) = (let both = x.2 in cc) in
    law x.0 x.1 ∙ ap written_contents (sym same)

-- contents of a simple value
pub simple_are : (k : ℕ) (kind : SimpleKind) (h : Header) (c : List ℕ) (d : Data) → ((v : Simple) → simple_kind v ≡ kind → SpellsSimple v c → c ≡ simple_contents v)
    → contents_at (members_at k) (of_kind kind) h c ≡ Ok d → c ≡ written_contents d
simple_are k kind h c d law e =
    let x = bind_ok (simple_at kind h.at h.contents_from c) _ d e in
    let is : d ≡ simple x.0 = (let same = x.2 in cc) in
    let held = simple_found kind h.at h.contents_from c x.0 x.1 in
    law x.0 held.kind held.spelled ∙ ap written_contents (sym is)

-- the kind of a member is that of its identifier
kind_of : (all : List ℕ) (at end : ℕ) (kind : Kind) (h : Header) → end ≤ length all → at < h.contents_from → IsHeader all at end h → known_at at (slice_range all at end) ≡ Ok kind → h.identifier ≡ identifier_of kind
kind_of all at end kind h inside begins is known =
    let split = region-split all at h.contents_to end (omega (arith, is.ordered)) is.inside in
    let front : slice_range all at end ≡ h.identifier ∷ (is.element.size ++ contents_of all h) ++ slice_range all h.contents_to end = split ∙ ap (λ (x : List ℕ). x ++ slice_range all h.contents_to end) is.element.parts in
    (here_found at h.identifier kind (ap (known_at at) (sym front) ∙ known)).0

-- a member stands in its written form: with the shortest length, and its contents are the written ones
pub member_one : (k : ℕ) (all : List ℕ) (at end : ℕ) (kind : Kind) (h : Header) (d : Data) → AreOctets all → end ≤ length all → IsHeader all at end h → h.at < h.contents_from
    → h.contents_from - h.at ≡ header_size (h.contents_to - h.contents_from) → known_at at (slice_range all at end) ≡ Ok kind
    → contents_at (members_at k) kind h (contents_of all h) ≡ Ok d → contents_of all h ≡ written_contents d → slice_range all at h.contents_to ≡ written d
member_one k all at end kind h d small inside is begins short known read same =
    header_one all at end h small inside is begins short
    ∙ ap₂ written_element (kind_of all at end kind h inside (omega (arith, begins, is.here)) is known) same
    ∙ sym (written_is k kind h (contents_of all h) d read)

-- ---- members one after the other

pub written_behind : (ds : List Data) (d : Data) → written_all (ds ++ d ∷ []) ≡ written_all ds ++ written d
written_behind [] d = append-nil (written d)
written_behind (x ∷ ds) d = ap (λ (o : List ℕ). written x ++ o) (written_behind ds d) ∙ sym (append_assoc (written x) (written_all ds) (written d))

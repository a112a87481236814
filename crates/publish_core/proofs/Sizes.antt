-- Of two frames of a change that differ in their sequence numbers alone, the one with the greater number of octets in it is
-- too long where the other is.
use Rattle.std.proofs.Common.{◌≡◌, ℕ, ◌+◌, ◌-◌, ◌<◌, ◌≤◌, ◌^◌, Bool, true, false, nat_lt, if◌then◌else◌, pos, List, [], ◌++◌, length, Option, Some, None, inl, inr, refl, sym, ap, ◌∙◌, arith}
use Rattle.std.proofs.lemmas.Bool.{cases_lt, ltb-true, ltb-false, lt-ltb}
use Rattle.std.proofs.lemmas.List.{length-append}
use Rattle.byteorder.specs.Numbers.{length-bytes_high_first}
use Rattle.ber_core.specs.Written.{integer_size, number_size, short_integer, signed_size, written_element}
use Rattle.mms_data.specs.Written.{header_size}
use Rattle.mms_data.proofs.WrittenSizes.{element_size, integer_count}
use Rattle.pdu_core.specs.Contents.{a_flag, a_number, a_text, a_time, some_members}
use Rattle.pdu_core.specs.Goose.{text_if}
use Rattle.pdu_core.specs.Written.{written_field}
use Rattle.frame_core.specs.Apdu.{ether_type_of}
use Rattle.frame_core.specs.Written.{IsTooLong, written_apdu, written_frame, written_head, written_tag, written_word}
use Rattle.frame_core.specs.declared.frame.Frame.{Frame}
use Rattle.frame_core.specs.declared.vlan_tag.VlanTag.{VlanTag}
use Rattle.publish_core.specs.declared.control.Control.{Control}
use Rattle.publish_core.specs.Frames.{Change, frame_with}
use Rattle.publish_core.specs.computed.Sizes.{head_size, words_size}

-- ---- tests on numbers

if_least : (b : Bool) (k x y : ℕ) → k ≤ x → k ≤ y → k ≤ (if b then x else y)
if_least true k x y p q = p
if_least false k x y p q = q

-- a size that is chosen by a limit grows with the number
if_grows : (c m n a x y : ℕ) → m ≤ n → a ≤ y → x ≤ y → (if nat_lt m c then a else x) ≤ (if nat_lt n c then a else y)
if_grows c m n a x y le small grown = in_case (nat_lt m c) (nat_lt n c) refl refl
  where
    in_case : (p q : Bool) → nat_lt m c ≡ p → nat_lt n c ≡ q → (if p then a else x) ≤ (if q then a else y)
    in_case true true e f = omega arith
    in_case true false e f = small
    in_case false true e f =
        let more : c ≤ m = ltb-false m c e in
        let less : n < c = ltb-true n c f in
        absurd (omega arith)
    in_case false false e f = grown

-- ---- elements

number_size_grows : (m n : ℕ) → m ≤ n → number_size m ≤ number_size n
number_size_grows m n le =
    if_grows (2 ^ 8) m n 1 _ _ le (if_least (nat_lt n (2 ^ 16)) 1 _ _ (omega arith) (if_least (nat_lt n (2 ^ 24)) 1 3 4 (omega arith) (omega arith)))
    (if_grows (2 ^ 16) m n 2 _ _ le (if_least (nat_lt n (2 ^ 24)) 2 3 4 (omega arith) (omega arith))
    (if_grows (2 ^ 24) m n 3 4 4 le (omega arith) (omega arith)))

header_size_grows : (m n : ℕ) → m ≤ n → header_size m ≤ header_size n
header_size_grows m n le =
    let sizes : number_size m ≤ number_size n = number_size_grows m n le in
    if_grows 128 m n 2 (2 + number_size m) (2 + number_size n) le (omega arith) (omega arith)

element_grows : (id : ℕ) (c d : List ℕ) → length c ≤ length d → length (written_element id c) ≤ length (written_element id d)
element_grows id c d le =
    omega (arith, element_size id c, element_size id d, header_size_grows (length c) (length d) le)

-- ---- sequence numbers

signed_size_most : (n : ℕ) → n < 2 ^ 39 → signed_size n ≤ 5
signed_size_most n lt = rw (lt-ltb n (2 ^ 39) lt) (in_case (nat_lt n (2 ^ 7)) (nat_lt n (2 ^ 15)) (nat_lt n (2 ^ 23)) (nat_lt n (2 ^ 31)))
  where
    in_case : (a b c d : Bool) → (if a then 1 else (if b then 2 else (if c then 3 else (if d then 4 else 5)))) ≤ 5
    in_case true b c d = omega arith
    in_case false true c d = omega arith
    in_case false false true d = omega arith
    in_case false false false true = omega arith
    in_case false false false false = omega arith

-- no sequence number has more octets than the greatest
pub sequence_shorter : (q : ℕ) → q ≤ 4294967295 → length (short_integer (pos q)) ≤ length (short_integer (pos 4294967295))
unfolding integer_size
sequence_shorter q le =
    let few : signed_size q ≤ 5 = signed_size_most q (omega arith) in
    let many : signed_size 4294967295 ≡ 5 = refl in
    omega (arith, integer_count (pos q), integer_count (pos 4294967295), few, many)

-- ---- frames

behind : (a r s : List ℕ) → length r ≤ length s → length (a ++ r) ≤ length (a ++ s)
behind a r s le = omega (arith, length-append a r, length-append a s)

before : (x y r : List ℕ) → length x ≤ length y → length (x ++ r) ≤ length (y ++ r)
before x y r le = omega (arith, length-append x r, length-append y r)

word_length : (n : ℕ) → length (written_word n) ≡ 2
word_length n = length-bytes_high_first 2 n

same_in : (d s t e a w v r : List ℕ) → length w ≡ length v → length (d ++ (s ++ (t ++ (e ++ (a ++ (w ++ r)))))) ≡ length (d ++ (s ++ (t ++ (e ++ (a ++ (v ++ r))))))
same_in d s t e a w v r same = simp length-append (omega arith)

-- what stands before an APDU has as many octets, however many the APDU has
head_length : {A : Type 0} (f : Frame A) (s t : ℕ) → length (written_head f s) ≡ length (written_head f t)
head_length f s t =
    same_in f.destination f.source (written_tag f.tag) (written_word (ether_type_of f.apdu)) (written_word f.app_id) (written_word (8 + s)) (written_word (8 + t)) (written_word f.reserved1 ++ written_word f.reserved2)
    (word_length (8 + s) ∙ sym (word_length (8 + t)))

module _ {A : Type 0} (control : Control A) (change : Change) (state live q r : ℕ) (shorter : length (short_integer (pos q)) ≤ length (short_integer (pos r))) where
  -- the fields behind sqNum
  rest : List ℕ
  rest = written_field 0x87 (Some (a_flag control.simulation)) ++ (written_field 0x88 (Some (a_number control.conf_rev)) ++ (written_field 0x89 (Some (a_flag control.nds_com)) ++ (written_field 0x8a (Some (a_number (length change.values))) ++ (written_field 0xab (Some (some_members change.values)) ++ []))))

  -- sqNum and what follows it
  numbered : ℕ → List ℕ
  numbered n = written_element 0x86 (short_integer (pos n)) ++ rest

  -- all fields
  contents : ℕ → List ℕ
  contents n = written_field 0x80 (Some (a_text control.gocb_ref)) ++ (written_field 0x81 (Some (a_number live)) ++ (written_field 0x82 (Some (a_text control.dat_set)) ++ (written_field 0x83 (text_if control.go_id) ++ (written_field 0x84 (Some (a_time change.t)) ++ (written_field 0x85 (Some (a_number state)) ++ numbered n)))))

  contents_grow : length (contents q) ≤ length (contents r)
  unfolding contents numbered
  contents_grow =
      behind (written_field 0x80 (Some (a_text control.gocb_ref))) _ _
      (behind (written_field 0x81 (Some (a_number live))) _ _
      (behind (written_field 0x82 (Some (a_text control.dat_set))) _ _
      (behind (written_field 0x83 (text_if control.go_id)) _ _
      (behind (written_field 0x84 (Some (a_time change.t))) _ _
      (behind (written_field 0x85 (Some (a_number state))) _ _
      (before (written_element 0x86 (short_integer (pos q))) (written_element 0x86 (short_integer (pos r))) rest
      (element_grows 0x86 (short_integer (pos q)) (short_integer (pos r)) shorter)))))))

  apdu_grows : length (written_apdu (frame_with control change state q live).apdu) ≤ length (written_apdu (frame_with control change state r live).apdu)
  unfolding contents numbered rest
  apdu_grows = element_grows 0x61 (contents q) (contents r) contents_grow

  frame_grows : length (written_frame (frame_with control change state q live)) ≤ length (written_frame (frame_with control change state r live))
  frame_grows =
      let f : Frame A = frame_with control change state q live in
      let g : Frame A = frame_with control change state r live in
      let u : List ℕ = written_apdu f.apdu in
      let v : List ℕ = written_apdu g.apdu in
      let head : length (written_head f (length u)) ≡ length (written_head g (length v)) = head_length f (length u) (length v) in
      omega (arith, length-append (written_head f (length u)) (u ++ []), length-append (written_head g (length v)) (v ++ []), length-append u [], length-append v [], head, apdu_grows)

  pub too_long_grows : IsTooLong (frame_with control change state q live) → IsTooLong (frame_with control change state r live)
  too_long_grows (inl more) = inl (let grown = apdu_grows in omega arith)
  too_long_grows (inr more) = inr (let grown = frame_grows in omega arith)

-- ---- all frames of a state

-- no number has more octets
pub size_most : (n : ℕ) → signed_size n ≤ 9
size_most n = in_case (nat_lt n (2 ^ 7)) (nat_lt n (2 ^ 15)) (nat_lt n (2 ^ 23)) (nat_lt n (2 ^ 31)) (nat_lt n (2 ^ 39)) (nat_lt n (2 ^ 47)) (nat_lt n (2 ^ 55)) (nat_lt n (2 ^ 63))
  where
    in_case : (a b c d e f g h : Bool) → (if a then 1 else (if b then 2 else (if c then 3 else (if d then 4 else (if e then 5 else (if f then 6 else (if g then 7 else (if h then 8 else 9)))))))) ≤ 9
    in_case true b c d e f g h = omega arith
    in_case false true c d e f g h = omega arith
    in_case false false true d e f g h = omega arith
    in_case false false false true e f g h = omega arith
    in_case false false false false true f g h = omega arith
    in_case false false false false false true g h = omega arith
    in_case false false false false false false true h = omega arith
    in_case false false false false false false false true = omega arith
    in_case false false false false false false false false = omega arith

pub number_count : (n : ℕ) → length (short_integer (pos n)) ≡ signed_size n
unfolding integer_size
number_count n = integer_count (pos n)

-- the octets of a header, by those of the contents
data HasHeader : ℕ → ℕ → Type 0 where
  short : {n : ℕ} → n < 128 → HasHeader n 2
  longer : {n : ℕ} → 128 ≤ n → n < 256 → HasHeader n 3
  long : {n : ℕ} → 256 ≤ n → n < 65536 → HasHeader n 4
  longest : {n h : ℕ} → 65536 ≤ n → HasHeader n h

has_header : (n : ℕ) → HasHeader n (header_size n)
has_header n = in_case (nat_lt n 128) (nat_lt n 256) (nat_lt n 65536) refl refl refl
  where
    in_case : (a b c : Bool) → nat_lt n 128 ≡ a → nat_lt n 256 ≡ b → nat_lt n 65536 ≡ c → HasHeader n (header_size n)
    in_case true b c e f g = rw e (short (ltb-true n 128 e))
    in_case false true c e f g = rw (e, f) (longer (ltb-false n 128 e) (ltb-true n 256 f))
    in_case false false true e f g = rw (e, f, g) (long (ltb-false n 256 f) (ltb-true n 65536 g))
    in_case false false false e f g = longest (ltb-false n 65536 g)

-- Of two elements the second has as many octets more as its contents have, where the first fits and the octets of a header
-- matter.
grown : (m n h k x y : ℕ) → HasHeader m h → HasHeader n k → h + m ≤ 1492 → x ≤ 18 → y ≤ 18 → m + y ≡ n + x → h + m + y ≤ 1492 + x → k + n ≤ 1492
grown m n h k x y (short a) (short b) first few some same le = omega arith
grown m n h k x y (short a) (longer b b1) first few some same le = omega arith
grown m n h k x y (short a) (long b b1) first few some same le = omega arith
grown m n h k x y (short a) (longest b) first few some same le = omega arith
grown m n h k x y (longer a a1) (short b) first few some same le = omega arith
grown m n h k x y (longer a a1) (longer b b1) first few some same le = omega arith
grown m n h k x y (longer a a1) (long b b1) first few some same le = omega arith
grown m n h k x y (longer a a1) (longest b) first few some same le = omega arith
grown m n h k x y (long a a1) (short b) first few some same le = omega arith
grown m n h k x y (long a a1) (longer b b1) first few some same le = omega arith
grown m n h k x y (long a a1) (long b b1) first few some same le = omega arith
grown m n h k x y (long a a1) (longest b) first few some same le = omega arith
grown m n h k x y (longest a) (short b) first few some same le = omega arith
grown m n h k x y (longest a) (longer b b1) first few some same le = omega arith
grown m n h k x y (longest a) (long b b1) first few some same le = omega arith
grown m n h k x y (longest a) (longest b) first few some same le = omega arith

overgrown : (m n h k x y : ℕ) → HasHeader m h → HasHeader n k → h + m ≤ 1492 → x ≤ 18 → y ≤ 18 → m + y ≡ n + x → 1492 + x < h + m + y → 1492 < k + n
overgrown m n h k x y (short a) (short b) first few some same lt = omega arith
overgrown m n h k x y (short a) (longer b b1) first few some same lt = omega arith
overgrown m n h k x y (short a) (long b b1) first few some same lt = omega arith
overgrown m n h k x y (short a) (longest b) first few some same lt = omega arith
overgrown m n h k x y (longer a a1) (short b) first few some same lt = omega arith
overgrown m n h k x y (longer a a1) (longer b b1) first few some same lt = omega arith
overgrown m n h k x y (longer a a1) (long b b1) first few some same lt = omega arith
overgrown m n h k x y (longer a a1) (longest b) first few some same lt = omega arith
overgrown m n h k x y (long a a1) (short b) first few some same lt = omega arith
overgrown m n h k x y (long a a1) (longer b b1) first few some same lt = omega arith
overgrown m n h k x y (long a a1) (long b b1) first few some same lt = omega arith
overgrown m n h k x y (long a a1) (longest b) first few some same lt = omega arith
overgrown m n h k x y (longest a) (short b) first few some same lt = omega arith
overgrown m n h k x y (longest a) (longer b b1) first few some same lt = omega arith
overgrown m n h k x y (longest a) (long b b1) first few some same lt = omega arith
overgrown m n h k x y (longest a) (longest b) first few some same lt = omega arith

pub small_header : (n : ℕ) → n < 128 → header_size n ≡ 2
small_header n lt = rw (lt-ltb n 128 lt) refl

words_length : (tag : Option VlanTag) (e a w r s : List ℕ) → length e ≡ 2 → length a ≡ 2 → length w ≡ 2 → length r ≡ 2 → length s ≡ 2 → length (written_tag tag ++ (e ++ (a ++ (w ++ (r ++ s))))) ≡ words_size tag
words_length None e a w r s p q t u v = simp length-append (omega arith)
words_length (Some tag) e a w r s p q t u v =
    let first : length (written_word 0x8100) ≡ 2 = word_length 0x8100 in
    let second : length (written_word tag.control) ≡ 2 = word_length tag.control in
    simp length-append (omega arith)

module _ {A : Type 0} (control : Control A) (change : Change) (state : ℕ) where
  -- the element of a number
  abbrev pub numbered_element : ℕ → ℕ → List ℕ
  numbered_element id n = written_element id (short_integer (pos n))

  pub numbered_size : (id n : ℕ) → length (numbered_element id n) ≡ 2 + signed_size n
  numbered_size id n =
      let count : length (short_integer (pos n)) ≡ signed_size n = number_count n in
      let most : signed_size n ≤ 9 = size_most n in
      let header : header_size (length (short_integer (pos n))) ≡ 2 = small_header _ (omega (arith, count, most)) in
      omega (arith, element_size id (short_integer (pos n)), count, header)

  -- all fields, by the lifetime and the sequence number
  unfoldable pub fields : ℕ → ℕ → List ℕ
  fields live q = written_field 0x80 (Some (a_text control.gocb_ref)) ++ (numbered_element 0x81 live ++ (written_field 0x82 (Some (a_text control.dat_set)) ++ (written_field 0x83 (text_if control.go_id) ++ (written_field 0x84 (Some (a_time change.t)) ++ (written_field 0x85 (Some (a_number state)) ++ (numbered_element 0x86 q ++ (written_field 0x87 (Some (a_flag control.simulation)) ++ (written_field 0x88 (Some (a_number control.conf_rev)) ++ (written_field 0x89 (Some (a_flag control.nds_com)) ++ (written_field 0x8a (Some (a_number (length change.values))) ++ (written_field 0xab (Some (some_members change.values)) ++ [])))))))))))

  -- what two frames have more or fewer
  pub fields_apart : (live q live' q' : ℕ) → length (fields live q) + (signed_size live' + signed_size q') ≡ length (fields live' q') + (signed_size live + signed_size q)
  unfolding fields
  fields_apart live q live' q' = simp length-append (omega (arith, numbered_size 0x81 live, numbered_size 0x86 q, numbered_size 0x81 live', numbered_size 0x86 q'))

  pub apdu_size : (live q : ℕ) → length (written_apdu (frame_with control change state q live).apdu) ≡ header_size (length (fields live q)) + length (fields live q)
  unfolding fields
  apdu_size live q = element_size 0x61 (fields live q)

  pub head_is : (f : Frame A) (n : ℕ) → f.destination ≡ control.destination → f.source ≡ control.source → f.tag ≡ control.tag → length (written_head f n) ≡ head_size control
  head_is f n to from tag =
      let words = words_length f.tag (written_word (ether_type_of f.apdu)) (written_word f.app_id) (written_word (8 + n)) (written_word f.reserved1) (written_word f.reserved2) (word_length (ether_type_of f.apdu)) (word_length f.app_id) (word_length (8 + n)) (word_length f.reserved1) (word_length f.reserved2) in
      rw (← to, ← from, ← tag) (omega (arith, length-append f.destination (f.source ++ (written_tag f.tag ++ (written_word (ether_type_of f.apdu) ++ (written_word f.app_id ++ (written_word (8 + n) ++ (written_word f.reserved1 ++ written_word f.reserved2)))))), length-append f.source (written_tag f.tag ++ (written_word (ether_type_of f.apdu) ++ (written_word f.app_id ++ (written_word (8 + n) ++ (written_word f.reserved1 ++ written_word f.reserved2))))), words))

  pub frame_size : (live q : ℕ) → length (written_frame (frame_with control change state q live)) ≡ head_size control + length (written_apdu (frame_with control change state q live).apdu)
  frame_size live q =
      let f : Frame A = frame_with control change state q live in
      let u : List ℕ = written_apdu f.apdu in
      omega (arith, length-append (written_head f (length u)) (u ++ []), length-append u [], head_is f (length u) refl refl refl)

  -- what stands behind the head
  pub apdu_rest : (live q : ℕ) (octets : List ℕ) (size head : ℕ) → octets ≡ written_frame (frame_with control change state q live) → size ≡ length octets → head ≡ head_size control →
      size - head ≡ length (written_apdu (frame_with control change state q live).apdu)
  apdu_rest live q octets size head e f h =
      let same : length octets ≡ length (written_frame (frame_with control change state q live)) = ap length e in
      omega (arith, frame_size live q, same, f, h)

  -- where the first frame has so many octets, another one fits, or not
  module _ (live q first : ℕ) (head : head_size control ≤ 26) (fit : ¬ IsTooLong (frame_with control change state 0 first)) where
    first_fits : length (written_apdu (frame_with control change state 0 first).apdu) ≤ 1492
    first_fits = elim (cases_lt 1492 (length (written_apdu (frame_with control change state 0 first).apdu))) [
      | inl over ↦ absurd (fit (inl (omega (arith, over))))
      | inr le ↦ le
    ]

    pub frame_fits : length (written_apdu (frame_with control change state 0 first).apdu) + signed_size live + signed_size q ≤ 1493 + signed_size first → ¬ IsTooLong (frame_with control change state q live)
    frame_fits le too_long =
        let a = apdu_size first 0 in
        let b = apdu_size live q in
        let whole = frame_size live q in
        let one : signed_size 0 ≡ 1 = refl in
        let fits = grown (length (fields first 0)) (length (fields live q)) (header_size (length (fields first 0))) (header_size (length (fields live q))) (signed_size first + signed_size 0) (signed_size live + signed_size q)
        (has_header _) (has_header _) (omega (arith, a, first_fits)) (omega (arith, size_most first, one)) (omega (arith, size_most live, size_most q)) (fields_apart first 0 live q) (omega (arith, a, le, one)) in
        elim too_long [
          | inl over ↦ omega (arith, over, b, fits)
          | inr over ↦ omega (arith, over, whole, b, fits, head)
        ]

    pub frame_long : 1493 + signed_size first < length (written_apdu (frame_with control change state 0 first).apdu) + signed_size live + signed_size q → IsTooLong (frame_with control change state q live)
    frame_long lt =
        let a = apdu_size first 0 in
        let b = apdu_size live q in
        let one : signed_size 0 ≡ 1 = refl in
        let over = overgrown (length (fields first 0)) (length (fields live q)) (header_size (length (fields first 0))) (header_size (length (fields live q))) (signed_size first + signed_size 0) (signed_size live + signed_size q)
        (has_header _) (has_header _) (omega (arith, a, first_fits)) (omega (arith, size_most first, one)) (omega (arith, size_most live, size_most q)) (fields_apart first 0 live q) (omega (arith, a, lt, one)) in
        inl (omega (arith, b, over))

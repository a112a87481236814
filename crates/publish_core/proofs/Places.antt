-- Where the numbers of a frame stand: of two frames of a change whose numbers have as many octets, each is the other with its
-- numbers written over.
use Rattle.std.proofs.Common.{◌≡◌, ℕ, ◌+◌, ◌-◌, ◌*◌, ◌^◌, ◌<◌, ◌≤◌, Bool, true, false, nat_lt, pos, List, [], ◌++◌, length, take, drop, drop-drop, take_all, Option, Some, None, refl, sym, ap, ◌∙◌, subst, append_assoc, arith}
use Rattle.std.specs.Prelude.{IfSome}
use Rattle.std.proofs.lemmas.List.{append-nil, length-append, length-drop, length-take}
use Rattle.std.proofs.lemmas.Bool.{ltb-true, lt-ltb}
use Rattle.std.proofs.Math.ListN.{drop_of_length-le}
use Rattle.std.proofs.Math.Nat.{mod-eq_of_lt}
use Rattle.std.proofs.Math.Seq.{drop-append-add, drop-append_seam, take-append_seam}
use Rattle.ber_core.specs.Written.{integer_size, short_integer, signed_size, written_element, written_header}
use Rattle.byteorder.specs.Endian.{big_bytes}
use Rattle.mms_data.specs.Written.{header_size, written_time}
use Rattle.mms_data.proofs.WrittenSizes.{element_size, length_size, time_size}
use Rattle.pdu_core.specs.Contents.{a_flag, a_number, a_text, a_time, some_members}
use Rattle.pdu_core.specs.Goose.{text_if}
use Rattle.pdu_core.specs.Written.{written_field}
use Rattle.frame_core.specs.Written.{written_apdu, written_frame, written_head}
use Rattle.publish_core.specs.declared.control.Control.{Control}
use Rattle.publish_core.specs.Frames.{Change, frame_with}
use Rattle.publish_core.specs.computed.Sizes.{HasShortTexts, between_size, head_size, live_place, text_size_if, written_over}
use Rattle.publish_core.proofs.Sizes.{apdu_size, fields, fields_apart, frame_size, head_is, number_count, numbered_size, size_most, small_header}

-- ---- lists

-- the parts of a frame, from its head to what follows the sequence number
regroup : (h e r l m a b c d s q k : List ℕ) → h ++ ((e ++ (r ++ ((l ++ m) ++ (a ++ (b ++ (c ++ (d ++ ((s ++ q) ++ k)))))))) ++ []) ≡ (h ++ (e ++ (r ++ l))) ++ (m ++ ((a ++ (b ++ (c ++ (d ++ s)))) ++ (q ++ k)))
regroup h e r l m a b c d s q k = simp (append_assoc, append-nil) refl

drop_front : (l r : List ℕ) (n : ℕ) → n ≡ length l → drop n (l ++ r) ≡ r
drop_front l r n e = subst (λ (m : ℕ). drop m (l ++ r) ≡ r) (sym e) (drop-append_seam l r)

-- a part is written over by one of as many octets
over_part : (f l m r : List ℕ) (place n : ℕ) → place ≡ length f → n ≡ length l → take place (f ++ (l ++ r)) ++ (m ++ drop (place + n) (f ++ (l ++ r))) ≡ f ++ (m ++ r)
over_part f l m r place n e g =
    let front : take place (f ++ (l ++ r)) ≡ f = subst (λ (p : ℕ). take p (f ++ (l ++ r)) ≡ f) (sym e) (take-append_seam f (l ++ r)) in
    let back : drop (place + n) (f ++ (l ++ r)) ≡ r = subst (λ (p : ℕ). drop (p + n) (f ++ (l ++ r)) ≡ r) (sym e) (drop-append-add f (l ++ r) n ∙ drop_front l r n g) in
    rw (front, back) refl

sum4 : (a b c d : List ℕ) → length (a ++ (b ++ (c ++ d))) ≡ length a + length b + length c + length d
sum4 a b c d = simp length-append (omega arith)

sum5 : (a b c d e : List ℕ) → length (a ++ (b ++ (c ++ (d ++ e)))) ≡ length a + length b + length c + length d + length e
sum5 a b c d e = simp length-append (omega arith)

-- as many octets stay
pub over_size : (octets : List ℕ) (place n : ℕ) → place + signed_size n ≤ length octets → length (written_over octets place n) ≡ length octets
over_size octets place n le =
    omega (arith, length-append (take place octets) (short_integer (pos n) ++ drop (place + signed_size n) octets), length-append (short_integer (pos n)) (drop (place + signed_size n) octets), length-take place octets, length-drop (place + signed_size n) octets, number_count n)

-- ---- numbers

size_holds : (n : ℕ) → n < 2 ^ 32 → n < 2 ^ (8 * signed_size n)
size_holds n lt = in_case (nat_lt n (2 ^ 7)) (nat_lt n (2 ^ 15)) (nat_lt n (2 ^ 23)) (nat_lt n (2 ^ 31)) refl refl refl refl
  where
    in_case : (a b c d : Bool) → nat_lt n (2 ^ 7) ≡ a → nat_lt n (2 ^ 15) ≡ b → nat_lt n (2 ^ 23) ≡ c → nat_lt n (2 ^ 31) ≡ d → n < 2 ^ (8 * signed_size n)
    in_case true b c d e f g h = rw e (let less : n < 2 ^ 7 = ltb-true n (2 ^ 7) e in omega arith)
    in_case false true c d e f g h = rw (e, f) (let less : n < 2 ^ 15 = ltb-true n (2 ^ 15) f in omega arith)
    in_case false false true d e f g h = rw (e, f, g) (let less : n < 2 ^ 23 = ltb-true n (2 ^ 23) g in omega arith)
    in_case false false false true e f g h = rw (e, f, g, h) (let less : n < 2 ^ 31 = ltb-true n (2 ^ 31) h in omega arith)
    in_case false false false false e f g h =
        let five : nat_lt n (2 ^ 39) ≡ true = lt-ltb n (2 ^ 39) (omega arith) in
        rw (e, f, g, h, five) (omega arith)

-- the written form of a number of 32 bits are its own octets
short_number : (n : ℕ) → n < 2 ^ 32 → short_integer (pos n) ≡ big_bytes (signed_size n) n
unfolding short_integer integer_size
short_number n lt = ap (big_bytes (signed_size n)) (mod-eq_of_lt (size_holds n lt))

-- what a slice holds once a number was written to its part from a place on
pub over_slice : (xs : List ℕ) (place n count : ℕ) (part : List ℕ) → n < 2 ^ 32 → count ≡ signed_size n →
    part ≡ big_bytes count n ++ drop count (take (length xs - place) (drop place xs)) → take place xs ++ (part ++ drop (length xs - place) (drop place xs)) ≡ written_over xs place n
over_slice xs place n count part lt e was =
    let whole : take (length xs - place) (drop place xs) ≡ drop place xs = take_all (length xs - place) (drop place xs) (omega (arith, length-drop place xs)) in
    let none : drop (length xs - place) (drop place xs) ≡ [] = drop_of_length-le (drop place xs) (omega (arith, length-drop place xs)) in
    let back : drop (signed_size n) (drop place xs) ≡ drop (place + signed_size n) xs = drop-drop (signed_size n) place xs in
    let mine : part ≡ short_integer (pos n) ++ drop (place + signed_size n) xs =
    was ∙ ap (λ (o : List ℕ). big_bytes count n ++ drop count o) whole ∙ ap (λ (k : ℕ). big_bytes k n ++ drop k (drop place xs)) e ∙ rw (back, short_number n lt) refl in
    rw (none, mine) (ap (λ (o : List ℕ). take place xs ++ o) (append-nil (short_integer (pos n) ++ drop (place + signed_size n) xs)))

-- ---- the parts of a frame

text_if_size : (o : Option (List ℕ)) → length (written_field 0x83 (text_if o)) ≡ text_size_if o
text_if_size None = refl
text_if_size (Some t) = element_size 0x83 t

text_if_short : (o : Option (List ℕ)) → text_size_if o ≤ 1600 → IfSome o (λ t. length t ≤ 1600)
text_if_short None le = tt
text_if_short (Some t) le = omega (arith, le)

module _ {A : Type 0} (control : Control A) (change : Change) (state : ℕ) where
  -- what stands before the octets of the lifetime, by the octets of the APDU, of its fields and of the lifetime
  front : ℕ → ℕ → ℕ → List ℕ
  front apdu size live = written_head (frame_with control change state 0 0) apdu ++ (written_header 0x61 size ++ (written_field 0x80 (Some (a_text control.gocb_ref)) ++ written_header 0x81 live))

  -- what stands between these and those of the sequence number
  middle : ℕ → List ℕ
  middle sequence = written_field 0x82 (Some (a_text control.dat_set)) ++ (written_field 0x83 (text_if control.go_id) ++ (written_field 0x84 (Some (a_time change.t)) ++ (written_field 0x85 (Some (a_number state)) ++ written_header 0x86 sequence)))

  -- what follows them
  rest : List ℕ
  rest = written_field 0x87 (Some (a_flag control.simulation)) ++ (written_field 0x88 (Some (a_number control.conf_rev)) ++ (written_field 0x89 (Some (a_flag control.nds_com)) ++ (written_field 0x8a (Some (a_number (length change.values))) ++ (written_field 0xab (Some (some_members change.values)) ++ []))))

  apdu_length : ℕ → ℕ → ℕ
  apdu_length live q = length (written_apdu (frame_with control change state q live).apdu)

  fields_length : ℕ → ℕ → ℕ
  fields_length live q = length (fields control change state live q)

  contents_length : ℕ → ℕ
  contents_length n = length (short_integer (pos n))

  frame_is : (live q : ℕ) → written_frame (frame_with control change state q live) ≡ front (apdu_length live q) (fields_length live q) (contents_length live) ++ (short_integer (pos live) ++ (middle (contents_length q) ++ (short_integer (pos q) ++ rest)))
  unfolding fields front middle rest apdu_length fields_length contents_length written_element
  frame_is live q =
      regroup (written_head (frame_with control change state 0 0) (apdu_length live q)) (written_header 0x61 (fields_length live q)) (written_field 0x80 (Some (a_text control.gocb_ref))) (written_header 0x81 (contents_length live)) (short_integer (pos live))
      (written_field 0x82 (Some (a_text control.dat_set))) (written_field 0x83 (text_if control.go_id)) (written_field 0x84 (Some (a_time change.t))) (written_field 0x85 (Some (a_number state))) (written_header 0x86 (contents_length q)) (short_integer (pos q)) rest

  -- ---- their sizes

  few : (n : ℕ) → contents_length n < 128
  unfolding contents_length
  few n = omega (arith, number_count n, size_most n)

  front_size : (apdu size live : ℕ) → live < 128 → length (front apdu size live) ≡ live_place control size
  unfolding front
  front_size apdu size live lt =
      omega (
        arith,
        sum4 (written_head (frame_with control change state 0 0) apdu) (written_header 0x61 size) (written_field 0x80 (Some (a_text control.gocb_ref))) (written_header 0x81 live),
        head_is control change state (frame_with control change state 0 0) apdu refl refl refl,
        length_size size,
        length_size live,
        small_header live lt,
        element_size 0x80 control.gocb_ref,
      )

  middle_size : (sequence : ℕ) → sequence < 128 → length (middle sequence) ≡ between_size control state
  unfolding middle
  middle_size sequence lt =
      omega (
        arith,
        sum5 (written_field 0x82 (Some (a_text control.dat_set))) (written_field 0x83 (text_if control.go_id)) (written_field 0x84 (Some (a_time change.t))) (written_field 0x85 (Some (a_number state))) (written_header 0x86 sequence),
        element_size 0x82 control.dat_set,
        text_if_size control.go_id,
        element_size 0x84 (written_time change.t),
        time_size change.t,
        ap header_size (time_size change.t),
        numbered_size control change state 0x85 state,
        length_size sequence,
        small_header sequence lt,
      )

  pub frame_length : (live q : ℕ) → head_size control + (header_size (length (fields control change state live q)) + length (fields control change state live q)) ≡ length (written_frame (frame_with control change state q live))
  frame_length live q = omega (arith, frame_size control change state live q, apdu_size control change state live q)

  -- all that stands before the last octet of the sequence number is there
  pub within : (live q : ℕ) → live_place control (length (fields control change state live q)) + signed_size live + between_size control state + signed_size q ≤ length (written_frame (frame_with control change state q live))
  unfolding fields_length contents_length
  within live q =
      let f = front (apdu_length live q) (fields_length live q) (contents_length live) in
      let m = middle (contents_length q) in
      let whole : length (written_frame (frame_with control change state q live)) ≡ length (f ++ (short_integer (pos live) ++ (m ++ (short_integer (pos q) ++ rest)))) = ap length (frame_is live q) in
      omega (
        arith,
        whole,
        sum5 f (short_integer (pos live)) m (short_integer (pos q)) rest,
        front_size (apdu_length live q) (fields_length live q) (contents_length live) (few live),
        middle_size (contents_length q) (few q),
        number_count live,
        number_count q,
      )

  -- its texts are no longer than the frame
  pub short_texts : (live q : ℕ) → length (written_frame (frame_with control change state q live)) ≤ 1600 → HasShortTexts control
  short_texts live q le =
      let all = within live q in
      record {
        gocb_ref = omega (arith, all, le);
        dat_set = omega (arith, all, le);
        go_id = text_if_short control.go_id (omega (arith, all, le));
      }

  -- ---- two frames

  front_same : (live q live' q' : ℕ) → signed_size live ≡ signed_size live' → signed_size q ≡ signed_size q' → front (apdu_length live q) (fields_length live q) (contents_length live) ≡ front (apdu_length live' q') (fields_length live' q') (contents_length live')
  unfolding apdu_length fields_length contents_length
  front_same live q live' q' e g =
      let lives : contents_length live ≡ contents_length live' = number_count live ∙ e ∙ sym (number_count live') in
      let sizes : fields_length live q ≡ fields_length live' q' = omega (arith, fields_apart control change state live q live' q', e, g) in
      let apdus : apdu_length live q ≡ apdu_length live' q' = apdu_size control change state live q ∙ ap (λ (n : ℕ). header_size n + n) sizes ∙ sym (apdu_size control change state live' q') in
      ap (λ (u : ℕ). front u (fields_length live q) (contents_length live)) apdus ∙ ap (λ (n : ℕ). front (apdu_length live' q') n (contents_length live)) sizes ∙ ap (front (apdu_length live' q') (fields_length live' q')) lives

  -- a frame with both numbers written over is the frame with these
  pub renewed : (live q live' q' place place' : ℕ) (old one two : List ℕ) → signed_size live ≡ signed_size live' → signed_size q ≡ signed_size q' → old ≡ written_frame (frame_with control change state q live) →
      place ≡ live_place control (length (fields control change state live q)) → place' ≡ place + signed_size live' + between_size control state →
      one ≡ written_over old place live' → two ≡ written_over one place' q' → two ≡ written_frame (frame_with control change state q' live')
  unfolding fields_length contents_length
  renewed live q live' q' place place' old one two e g was at at' first second =
      let f = front (apdu_length live q) (fields_length live q) (contents_length live) in
      let m = middle (contents_length q) in
      let l = short_integer (pos live) in
      let l' = short_integer (pos live') in
      let s = short_integer (pos q) in
      let s' = short_integer (pos q') in
      let front_is : place ≡ length f = at ∙ sym (front_size (apdu_length live q) (fields_length live q) (contents_length live) (few live)) in
      let live_is : signed_size live' ≡ length l = sym e ∙ sym (number_count live) in
      let after_one : one ≡ f ++ (l' ++ (m ++ (s ++ rest))) =
      first ∙ ap (λ (o : List ℕ). written_over o place live') (was ∙ frame_is live q) ∙ over_part f l l' (m ++ (s ++ rest)) place (signed_size live') front_is live_is in
      let grouped : one ≡ (f ++ (l' ++ m)) ++ (s ++ rest) = after_one ∙ simp append_assoc refl in
      let middle_is : place' ≡ length (f ++ (l' ++ m)) =
      omega (arith, at', front_is, length-append f (l' ++ m), length-append l' m, number_count live', middle_size (contents_length q) (few q)) in
      let sequence_is : signed_size q' ≡ length s = sym g ∙ sym (number_count q) in
      let after_two : two ≡ (f ++ (l' ++ m)) ++ (s' ++ rest) =
      second ∙ ap (λ (o : List ℕ). written_over o place' q') grouped ∙ over_part (f ++ (l' ++ m)) s s' rest place' (signed_size q') middle_is sequence_is in
      let ungrouped : (f ++ (l' ++ m)) ++ (s' ++ rest) ≡ f ++ (l' ++ (m ++ (s' ++ rest))) = simp append_assoc refl in
      let counts : contents_length q ≡ contents_length q' = number_count q ∙ g ∙ sym (number_count q') in
      after_two ∙ ungrouped ∙ ap (λ (x : List ℕ). x ++ (l' ++ (m ++ (s' ++ rest)))) (front_same live q live' q' e g)
      ∙ ap (λ (n : ℕ). front (apdu_length live' q') (fields_length live' q') (contents_length live') ++ (l' ++ (middle n ++ (s' ++ rest)))) counts
      ∙ sym (frame_is live' q')

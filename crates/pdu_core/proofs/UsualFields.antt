-- An ASDU of the usual fields: it stands in its written form, and so is read.
use Rattle.std.proofs.Common.{◌≡◌, ℕ, ◌+◌, ◌-◌, ◌*◌, ◌^◌, ◌≤◌, ◌<◌, List, [], ◌∷◌, ◌++◌, length, get_or, take, drop, Option, Some, None, Ok, refl, sym, subst, ap, ap₂, append_assoc, ◌∙◌, arith}
use Rattle.std.proofs.lemmas.Bool.{eq-eqb, le-ltb, lt-ltb, ne_eqb}
use Rattle.std.proofs.lemmas.List.{append-nil, drop-drop, get_or-drop, length-drop, length-take, take-append-drop}
use Rattle.std.specs.Prelude.{slice_range}
use Rattle.ber_core.specs.Element.{IsIdentifier, contents_of}
use Rattle.byteorder.specs.Endian.{big_bytes, big_number}
use Rattle.ber_core.specs.Fields.{always}
use Rattle.ber_core.specs.Length.{AreOctets}
use Rattle.ber_core.specs.Written.{written_element}
use Rattle.ber_core.specs.computed.ContentsReading.{all_visible_at}
use Rattle.ber_core.specs.computed.FieldReading.{field_as, fields_at, required_at, there_at}
use Rattle.ber_core.specs.computed.Reading.{header_at, length_at}
use Rattle.ber_core.specs.declared.element.Header.{Header}
use Rattle.ber_core.proofs.FieldSequence.{fields_again}
use Rattle.ber_core.proofs.Regions.{contents_are, element_is, region-length}
use Rattle.mms_data.proofs.SpelledSpellable.{back_octets}
use Rattle.pdu_core.specs.Asdu.{asdu_fields}
use Rattle.pdu_core.specs.Contents.{Item, a_fixed, a_text, contents_grammar, some_octets, text}
use Rattle.pdu_core.specs.Written.{written_fields}
use Rattle.pdu_core.specs.computed.ContentsReading.{item_at}
use Rattle.pdu_core.specs.computed.SampledReading.{asdu_at, behind_first}
use Rattle.pdu_core.proofs.Items.{items_sound}
use Rattle.pdu_core.proofs.ShortFields.{few_written}
use Rattle.pdu_core.proofs.WrittenSpelled.{Suit, fields_written, one_octet}

-- ---- an element whose length is one octet

-- the first two octets, and what stands behind them
pub two_front : (s : List ℕ) → 2 ≤ length s → s ≡ get_or s 0 0 ∷ get_or s 1 0 ∷ drop 2 s
two_front [] some = absurd (omega arith)
two_front (x ∷ []) some = absurd (omega arith)
two_front (x ∷ y ∷ more) some = refl

module _ (octets : List ℕ) (at end id size : ℕ) (rest : List ℕ) (ordered : at ≤ end) (inside : end ≤ length octets) (low : IsIdentifier id) (few : size < 128) (fits : size ≤ length rest)
    (parts : slice_range octets at end ≡ id ∷ size ∷ rest) where
  pub short_required : required_at id octets at end ≡ Ok (record { at = at; identifier = id; contents_from = at + 2; contents_to = at + 2 + size })
  unfolding required_at there_at header_at length_at
  short_required = rw (parts, eq-eqb id id refl, ne_eqb _ 31 low, lt-ltb size 128 few, le-ltb (length rest) size fits) refl

  pub short_ends : at + 2 + size ≤ end
  short_ends = omega (arith, region-length octets at end inside, ap length parts, fits, ordered)

  pub short_stands : slice_range octets at (at + 2 + size) ≡ written_element id (slice_range octets (at + 2) (at + 2 + size))
  short_stands =
      let c = take size rest in
      let counted : length c ≡ size = omega (arith, length-take size rest, fits) in
      let from : at + 1 + 1 ≡ at + 2 = omega arith in
      let ends : at + 1 + 1 + length c ≡ at + 2 + size = omega (arith, counted) in
      let whole : slice_range octets at end ≡ id ∷ (size ∷ []) ++ (c ++ drop size rest) = parts ∙ ap (λ (l : List ℕ). id ∷ size ∷ l) (sym (take-append-drop size rest)) in
      let behind : slice_range octets (at + 2) (at + 2 + size) ≡ c = ap₂ (λ (i j : ℕ). slice_range octets i j) (sym from) (sym ends) ∙ contents_are octets at end id (size ∷ []) c (drop size rest) ordered inside whole in
      ap (λ (j : ℕ). slice_range octets at j) (sym ends) ∙ element_is octets at end id (size ∷ []) c (drop size rest) ordered inside whole
      ∙ sym (few_written id size c few counted) ∙ ap (written_element id) (sym behind)

-- ---- the fields behind svID

-- their values
abbrev pub usual_items : ℕ → ℕ → ℕ → List ℕ → List (Option Item)
usual_items smp_cnt conf_rev smp_synch sample =
    None ∷ Some (a_fixed 2 smp_cnt) ∷ Some (a_fixed 4 conf_rev) ∷ None ∷ Some (a_fixed 1 smp_synch) ∷ None ∷ Some (some_octets sample) ∷ None ∷ None ∷ []

-- two octets of which the number is known
front_two : (s : List ℕ) (a b : ℕ) → 2 ≤ length s → AreOctets s → a < 256 → b < 256 → big_number 2 (take 2 s) ≡ a * 256 + b → s ≡ a ∷ b ∷ drop 2 s
front_two [] a b some small low high is = absurd (omega arith)
front_two (x ∷ []) a b some small low high is = absurd (omega arith)
front_two (x ∷ y ∷ more) a b some small low high is =
    let first : x < 256 = small 0 in
    let last : y < 256 = small 1 in
    let one : x ≡ a = omega (arith, is, first, last, low, high) in
    let two : y ≡ b = omega (arith, is, first, last, low, high) in
    ap₂ (λ (i j : ℕ). i ∷ j ∷ more) one two

last_one : (s : List ℕ) → length s ≡ 1 → s ≡ get_or s 0 0 ∷ []
last_one [] e = absurd (omega arith)
last_one (x ∷ []) e = refl
last_one (x ∷ y ∷ more) e = absurd (omega arith)

drop_octets : (n : ℕ) (s : List ℕ) → AreOctets s → AreOctets (drop n s)
drop_octets n s small = back_octets (take n s) (drop n s) (subst AreOctets (sym (take-append-drop n s)) small)

-- the octets up to the sample, by their identifiers and lengths
pub usual_heads : (s : List ℕ) → length s ≡ 15 → AreOctets s → big_number 2 (slice_range s 0 2) ≡ 33282 → big_number 2 (slice_range s 4 6) ≡ 33540 → big_number 2 (slice_range s 10 12) ≡ 34049 → get_or s 13 0 ≡ 135
    → s ≡ 130 ∷ 2 ∷ slice_range s 2 4 ++ (131 ∷ 4 ∷ slice_range s 6 10 ++ (133 ∷ 1 ∷ get_or s 12 0 ∷ 135 ∷ get_or s 14 0 ∷ []))
usual_heads s size small cnt rev synch last =
    let rest : (n : ℕ) → length (drop n s) ≡ 15 - n = λ n. length-drop n s ∙ ap (λ k. k - n) size in
    let a : s ≡ 130 ∷ 2 ∷ drop 2 s = front_two s 130 2 (omega (arith, size)) small (omega arith) (omega arith) cnt in
    let b : drop 2 s ≡ slice_range s 2 4 ++ drop 4 s = sym (take-append-drop 2 (drop 2 s)) ∙ ap (λ (l : List ℕ). take 2 (drop 2 s) ++ l) (drop-drop 2 2 s) in
    let c : drop 4 s ≡ 131 ∷ 4 ∷ drop 6 s = front_two (drop 4 s) 131 4 (omega (arith, rest 4)) (drop_octets 4 s small) (omega arith) (omega arith) rev ∙ ap (λ (l : List ℕ). 131 ∷ 4 ∷ l) (drop-drop 2 4 s) in
    let d : drop 6 s ≡ slice_range s 6 10 ++ drop 10 s = sym (take-append-drop 4 (drop 6 s)) ∙ ap (λ (l : List ℕ). take 4 (drop 6 s) ++ l) (drop-drop 4 6 s) in
    let e : drop 10 s ≡ 133 ∷ 1 ∷ drop 12 s = front_two (drop 10 s) 133 1 (omega (arith, rest 10)) (drop_octets 10 s small) (omega arith) (omega arith) synch ∙ ap (λ (l : List ℕ). 133 ∷ 1 ∷ l) (drop-drop 2 10 s) in
    let f : drop 12 s ≡ get_or s 12 0 ∷ 135 ∷ drop 14 s =
    two_front (drop 12 s) (omega (arith, rest 12)) ∙ ap₂ (λ (i j : ℕ). i ∷ j ∷ drop 2 (drop 12 s)) (get_or-drop 12 s 0 0) (get_or-drop 12 s 1 0 ∙ last) ∙ ap (λ (l : List ℕ). get_or s 12 0 ∷ 135 ∷ l) (drop-drop 2 12 s) in
    let h : drop 14 s ≡ get_or s 14 0 ∷ [] = last_one (drop 14 s) (rest 14) ∙ ap (λ (x : ℕ). x ∷ []) (get_or-drop 14 s 0 0) in
    a ∙ ap (λ (l : List ℕ). 130 ∷ 2 ∷ l) (b ∙ ap (λ (l : List ℕ). slice_range s 2 4 ++ l)
    (c ∙ ap (λ (l : List ℕ). 131 ∷ 4 ∷ l) (d ∙ ap (λ (l : List ℕ). slice_range s 6 10 ++ l) (e ∙ ap (λ (l : List ℕ). 133 ∷ 1 ∷ l) (f ∙ ap (λ (l : List ℕ). get_or s 12 0 ∷ 135 ∷ l) h)))))

pub usual_written : (c r sample : List ℕ) (m n g size : ℕ) → c ≡ big_bytes 2 m → r ≡ big_bytes 4 n → g ∷ [] ≡ big_bytes 1 g → length c ≡ 2 → length r ≡ 4 → size < 128 → length sample ≡ size
    → (130 ∷ 2 ∷ c ++ (131 ∷ 4 ∷ r ++ (133 ∷ 1 ∷ g ∷ 135 ∷ size ∷ []))) ++ sample ≡ written_fields (drop 1 asdu_fields) (usual_items m n g sample)
usual_written c r sample m n g size two four one counted counted_r few sized =
    let cnt : written_element 0x82 (big_bytes 2 m) ≡ 0x82 ∷ 2 ∷ c = ap (written_element 0x82) (sym two) ∙ few_written 0x82 2 c (omega arith) counted in
    let rev : written_element 0x83 (big_bytes 4 n) ≡ 0x83 ∷ 4 ∷ r = ap (written_element 0x83) (sym four) ∙ few_written 0x83 4 r (omega arith) counted_r in
    let synch : written_element 0x85 (big_bytes 1 g) ≡ 0x85 ∷ 1 ∷ g ∷ [] = ap (written_element 0x85) (sym one) ∙ few_written 0x85 1 (g ∷ []) (omega arith) refl in
    rw (cnt, rev, synch, few_written 0x87 size sample few sized, append-nil sample) (ap (λ (l : List ℕ). 130 ∷ 2 ∷ l) (append_assoc c _ sample ∙ ap (λ (l : List ℕ). c ++ 131 ∷ 4 ∷ l) (append_assoc r _ sample)))

module _ (octets : List ℕ) (at end m n g : ℕ) (sample : List ℕ) (ordered : at ≤ end) (inside : end ≤ length octets) (two : m < 256 ^ 2) (four : n < 256 ^ 4) (one : g < 256 ^ 1) (few : length sample < 128) where
  usual_suit : Suit (drop 1 asdu_fields) (usual_items m n g sample)
  usual_suit = (refl, (one_octet 0x82 refl, (refl, two), (one_octet 0x83 refl, (refl, four), (refl, (one_octet 0x85 refl, (refl, one), (refl, (one_octet 0x87 refl, tt, (refl, (refl, tt)))))))))

  pub usual_read : slice_range octets at end ≡ written_fields (drop 1 asdu_fields) (usual_items m n g sample) → length (slice_range octets at end) ≡ 15 + length sample
      → (x : Option Item) → behind_first x octets at end ≡ Ok (x ∷ usual_items m n g sample)
  usual_read stands size x =
      let w = written_fields (drop 1 asdu_fields) (usual_items m n g sample) in
      let held = ap length stands in
      let next : at + length w ≡ end = omega (arith, region-length octets at end inside, held, ordered) in
      let read : fields_at item_at (drop 1 asdu_fields) (x ∷ []) octets at end ≡ Ok (x ∷ usual_items m n g sample, end) =
      fields_again contents_grammar item_at items_sound octets end inside (drop 1 asdu_fields) (x ∷ []) (usual_items m n g sample) at w [] refl ordered tt
      (fields_written (drop 1 asdu_fields) (usual_items m n g sample) usual_suit (omega (arith, held, size, few))) (stands ∙ sym (append-nil w))
      ∙ ap (λ (q : ℕ). Ok (x ∷ usual_items m n g sample, q)) next in
      rw (read, le-ltb end end (omega arith)) refl

-- ---- the ASDU

pub asdu_read : (octets : List ℕ) (at end place : ℕ) (h : Header) (x : Option Item) (items : List (Option Item)) → required_at 0x30 octets at end ≡ Ok h
    → field_as item_at 0x80 text always octets h.contents_from h.contents_to ≡ Ok (x, place)
    → behind_first x octets place h.contents_to ≡ Ok items → asdu_at octets at end ≡ Ok (items, h.contents_to)
unfolding asdu_at
asdu_read octets at end place h x items is first rest = rw (is, first, rest) refl

pub text_read : (octets : List ℕ) (at end : ℕ) (h : Header) → required_at 0x80 octets at end ≡ Ok h → all_visible_at h.contents_from (contents_of octets h) ≡ Ok tt
    → field_as item_at 0x80 text always octets at end ≡ Ok (Some (a_text (contents_of octets h)), h.contents_to)
text_read octets at end h is visible = rw (is, visible) refl

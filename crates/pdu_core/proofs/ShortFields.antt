-- Short fields. Of three octets: an identifier, a length of 1, and one octet of contents.
use Rattle.std.proofs.Common.{◌≡◌, ℕ, suc, ℤ, pos, ◌+◌, ◌*◌, ◌%◌, ◌<◌, ◌≤◌, Bool, true, false, eqb, List, [], ◌∷◌, ◌++◌, length, drop, get_or, Ok, Some, refl, sym, ap, subst, ◌∙◌, arith, inl}
use Rattle.std.proofs.lemmas.Bool.{eqb-true}
use Rattle.std.specs.Prelude.{◌≢◌, slice_index, slice_range}
use Rattle.ber_core.specs.Element.{IsIdentifier}
use Rattle.ber_core.specs.Fields.{Presence, always}
use Rattle.ber_core.specs.Integer.{Int}
use Rattle.ber_core.specs.Length.{AreOctets, number}
use Rattle.ber_core.proofs.Shortest.{twos_low}
use Rattle.mms_data.proofs.AsWritten.{slice_octets}
use Rattle.std.proofs.lemmas.Int.{ints}
use Rattle.ber_core.specs.Written.{short_integer, short_length, written_element}
use Rattle.ber_core.specs.computed.FieldReading.{field_as}
use Rattle.ber_core.proofs.FieldSound.{field_again}
use Rattle.ber_core.proofs.Regions.{region-split}
use Rattle.ber_core.proofs.WrittenLemmas.{short_length-small, written_integer, written_one}
use Rattle.byteorder.specs.Endian.{big_number}
use Rattle.pdu_core.specs.Contents.{Kind, Item, SpellsContents, a_fixed, a_flag, a_number, contents_grammar, fixed, number as a_kind_of_number, flag as a_kind_of_flag}
use Rattle.pdu_core.specs.Written.{written_field, written_item}
use Rattle.pdu_core.specs.computed.ContentsReading.{item_at}
use Rattle.pdu_core.proofs.Items.{items_sound}
use Rattle.pdu_core.proofs.Standing.{fixed_one}
use Rattle.pdu_core.proofs.WrittenSpelled.{flag_written, number_written}

not_equal : (a b : ℕ) → a ≢ b → eqb a b ≡ false
not_equal a b differ = in_case (eqb a b) refl where
  in_case : (t : Bool) → eqb a b ≡ t → eqb a b ≡ false
  in_case true e = absurd (differ (eqb-true a b e))
  in_case false e = e

-- contents of one octet are a small number's
one_written : (n : ℕ) → n < 128 → short_integer (pos n) ≡ n ∷ []
one_written n small = ap (λ (l : List ℕ). drop 2 l) (sym (written_integer 0 (pos n)) ∙ written_one 0 n small)

-- an element of one octet
octet_written : (id n : ℕ) → written_element id (n ∷ []) ≡ id ∷ 1 ∷ n ∷ []
unfolding written_element short_length
octet_written id n = refl

module _ (octets : List ℕ) (at end id n : ℕ) (ordered : at ≤ end) (inside : end ≤ length octets) (low : IsIdentifier id) (next : at + 3 ≤ end) (there : slice_range octets at (at + 3) ≡ id ∷ 1 ∷ n ∷ []) where
  -- a value that its one octet spells is read
  short_read : (k : Kind) (p : Presence Item) (x : Item) → SpellsContents k x (n ∷ []) → field_as item_at id k p octets at end ≡ Ok (Some x, at + 3)
  short_read k p x spelled =
      let rest = slice_range octets (at + 3) end in
      let parts : slice_range octets at end ≡ id ∷ (1 ∷ []) ++ ((n ∷ []) ++ rest) = region-split octets at (at + 3) end (omega arith) next ∙ ap (λ (l : List ℕ). l ++ rest) there in
      let behind : at + 1 + 1 + 1 ≡ at + 3 = omega arith in
      field_again contents_grammar item_at items_sound octets end inside (record { identifier = id; kind = k; presence = p }) at ordered (not_equal (id % 32) 31 low) x (1 ∷ []) (n ∷ []) rest parts (inl (refl, refl, omega arith)) spelled
      ∙ ap (λ (q : ℕ). Ok (Some x, q)) behind

  pub number_read : (p : Presence Item) → n < 128 → field_as item_at id a_kind_of_number p octets at end ≡ Ok (Some (a_number n), at + 3)
  number_read p small = short_read a_kind_of_number p (a_number n) (subst (λ (c : List ℕ). SpellsContents a_kind_of_number (a_number n) c) (one_written n small) (number_written n (omega (arith, small))))

  pub number_stands : n < 128 → slice_range octets at (at + 3) ≡ written_field id (Some (a_number n))
  number_stands small = there ∙ sym (written_one id n small)

  pub flag_read : (p : Presence Item) (b : Bool) → written_item (a_flag b) ≡ n ∷ [] → field_as item_at id a_kind_of_flag p octets at end ≡ Ok (Some (a_flag b), at + 3)
  flag_read p b is = short_read a_kind_of_flag p (a_flag b) (subst (λ (c : List ℕ). SpellsContents a_kind_of_flag (a_flag b) c) is (flag_written b))

  pub flag_stands : (b : Bool) → written_item (a_flag b) ≡ n ∷ [] → slice_range octets at (at + 3) ≡ written_field id (Some (a_flag b))
  flag_stands b is = there ∙ sym (ap (written_element id) is ∙ octet_written id n)

-- ---- fields of four octets: an identifier, a length of 2, and two octets of contents

-- an element of two octets
pair_written : (id a b : ℕ) → written_element id (a ∷ b ∷ []) ≡ id ∷ 2 ∷ a ∷ b ∷ []
unfolding written_element short_length
pair_written id a b = refl

-- two octets, the first below 128, spell a number
pair_spells : (a b : ℕ) → a < 128 → b < 256 → SpellsContents a_kind_of_number (a_number (a * 256 + b)) (a ∷ b ∷ [])
pair_spells a b small octet =
    let same : number (a ∷ b ∷ []) ≡ a * 256 + b = omega arith in
    (omega (arith, ints), omega (arith, ints), (omega arith, omega arith, twos_low 2 (number (a ∷ b ∷ [])) (omega (arith, same)) ∙ ap pos same))

-- two octets, one by one
pub pair_of : (c : List ℕ) → length c ≡ 2 → c ≡ get_or c 0 0 ∷ get_or c 1 0 ∷ []
pair_of [] e = absurd (omega (arith, e))
pair_of (a ∷ []) e = absurd (omega (arith, e))
pair_of (a ∷ b ∷ []) e = refl
pair_of (a ∷ b ∷ x ∷ xs) e = absurd (omega (arith, e))

module _ (octets : List ℕ) (at end id a b : ℕ) (ordered : at ≤ end) (inside : end ≤ length octets) (low : IsIdentifier id) (next : at + 4 ≤ end) (there : slice_range octets at (at + 4) ≡ id ∷ 2 ∷ a ∷ b ∷ []) where
  pub pair_read : a < 128 → AreOctets octets → field_as item_at id a_kind_of_number always octets at end ≡ Ok (Some (a_number (a * 256 + b)), at + 4)
  pair_read small octet =
      let rest = slice_range octets (at + 4) end in
      let parts : slice_range octets at end ≡ id ∷ (2 ∷ []) ++ ((a ∷ b ∷ []) ++ rest) = region-split octets at (at + 4) end (omega arith) next ∙ ap (λ (l : List ℕ). l ++ rest) there in
      let behind : at + 1 + 1 + 2 ≡ at + 4 = omega arith in
      let last : b < 256 = subst (λ (l : List ℕ). slice_index l 3 < 256) there (slice_octets octets at (at + 4) octet 3) in
      field_again contents_grammar item_at items_sound octets end inside (record { identifier = id; kind = a_kind_of_number; presence = always }) at ordered (not_equal (id % 32) 31 low) (a_number (a * 256 + b)) (2 ∷ []) (a ∷ b ∷ []) rest parts (inl (refl, refl, omega arith)) (pair_spells a b small last)
      ∙ ap (λ (q : ℕ). Ok (Some (a_number (a * 256 + b)), q)) behind

  pub pair_stands : a < 128 → AreOctets octets → ((n : ℤ) → Int n (a ∷ b ∷ []) → a ∷ b ∷ [] ≡ short_integer n) → slice_range octets at (at + 4) ≡ written_field id (Some (a_number (a * 256 + b)))
  pair_stands small octet shortest =
      let last : b < 256 = subst (λ (l : List ℕ). slice_index l 3 < 256) there (slice_octets octets at (at + 4) octet 3) in
      there ∙ sym (pair_written id a b) ∙ ap (written_element id) (shortest (pos (a * 256 + b)) (pair_spells a b small last).2)

-- ---- fields with a stated count of octets

-- an element of few octets
pub few_written : (id size : ℕ) (c : List ℕ) → size < 128 → length c ≡ size → written_element id c ≡ id ∷ size ∷ c
unfolding written_element
few_written id size c few counted = rw (short_length-small (length c) (omega (arith, few, counted)), counted) refl

module _ (octets : List ℕ) (at end id size : ℕ) (c : List ℕ) (n : ℕ) (ordered : at ≤ end) (inside : end ≤ length octets) (low : IsIdentifier id) (few : size < 128) (counted : length c ≡ size) (is : big_number size c ≡ n)
    (next : at + 2 + size ≤ end) (there : slice_range octets at (at + 2 + size) ≡ id ∷ size ∷ c) (to : ℕ) (ends : at + 2 + size ≡ to) where
  value : number c ≡ n
  value = ap (λ (k : ℕ). big_number k c) counted ∙ is

  pub fixed_read : field_as item_at id (fixed size) always octets at end ≡ Ok (Some (a_fixed size n), to)
  fixed_read =
      let rest = slice_range octets (at + 2 + size) end in
      let parts : slice_range octets at end ≡ id ∷ (size ∷ []) ++ (c ++ rest) = region-split octets at (at + 2 + size) end (omega arith) next ∙ ap (λ (l : List ℕ). l ++ rest) there in
      let behind : at + 1 + 1 + length c ≡ to = omega (arith, counted, ends) in
      field_again contents_grammar item_at items_sound octets end inside (record { identifier = id; kind = fixed size; presence = always }) at ordered (not_equal (id % 32) 31 low) (a_fixed size n) (size ∷ []) c rest parts (inl (refl, sym counted, omega (arith, counted, few))) (refl, (counted, value))
      ∙ ap (λ (q : ℕ). Ok (Some (a_fixed size n), q)) behind

  pub fixed_stands : AreOctets octets → slice_range octets at to ≡ written_field id (Some (a_fixed size n))
  fixed_stands small =
      let octet : AreOctets c = λ i. subst (λ (l : List ℕ). slice_index l (suc (suc i)) < 256) there (slice_octets octets at (at + 2 + size) small (suc (suc i))) in
      ap (λ (k : ℕ). slice_range octets at k) (sym ends) ∙ there ∙ sym (few_written id size c few counted) ∙ ap (written_element id) (fixed_one size n c octet (counted, value))

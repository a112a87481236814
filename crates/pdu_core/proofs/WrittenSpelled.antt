-- What is written is spelled.
use Rattle.std.proofs.Common.{◌≡◌, ℕ, pos, ◌+◌, ◌%◌, ◌^◌, ◌<◌, Bool, true, false, eqb, List, [], ◌∷◌, length, drop, Option, Some, None, refl, sym, ap, subst, ◌∙◌, arith}
use Rattle.std.proofs.lemmas.Bool.{eqb-false}
use Rattle.std.proofs.lemmas.Int.{ints}
use Rattle.std.proofs.lemmas.List.{length-append, append-nil}
use Rattle.std.specs.Prelude.{IfSome}
use Rattle.byteorder.specs.Endian.{big_bytes, big_number}
use Rattle.byteorder.specs.Numbers.{length-bytes_high_first, big_number-reads_back}
use Rattle.ber_core.specs.Element.{Elem, IsIdentifier}
use Rattle.ber_core.specs.Fields.{Field, AbsenceMeans, SpellsFields, filled, left_out}
use Rattle.ber_core.specs.Length.{number}
use Rattle.ber_core.specs.Written.{short_integer, short_length, written_element}
use Rattle.ber_core.proofs.Shortest.{integer_shortest, length_shortest}
use Rattle.ber_core.specs.Contents.{AreVisible}
use Rattle.mms_data.specs.Utc.{SpellsUtc}
use Rattle.mms_data.specs.declared.time.UtcTime.{UtcTime}
use Rattle.mms_data.proofs.WrittenSpelled.{all_written_are_spelled}
use Rattle.pdu_core.specs.Contents.{Kind, text, flag, time, members, fixed, raw, few, Item, a_text, a_number, a_flag, a_time, some_members, a_fixed, some_octets, SpellsContents, SpellsFixed, contents_grammar, number as a_kind_of_number}
use Rattle.pdu_core.specs.Goose.{goose_fields, goose_items, text_if}
use Rattle.pdu_core.specs.Laws.{WrittenIsSpelled}
use Rattle.pdu_core.specs.SampledSpellable.{AreFew, IsFixed}
use Rattle.pdu_core.specs.Spellable.{IsNumber, IsSpellableGoose}
use Rattle.mms_data.specs.Spellable.{AllAreSpellable, IsTime}
use Rattle.mms_data.specs.Written.{written_time}
use Rattle.pdu_core.specs.Written.{goose_contents, written_fields, written_item}
use Rattle.pdu_core.specs.declared.goose.GoosePdu.{GoosePdu}
use Rattle.mms_data.proofs.Sizes.{element_size}

-- ---- contents, kind by kind

pub number_written : (n : ℕ) → n < 2 ^ 32 → SpellsContents a_kind_of_number (a_number n) (short_integer (pos n))
number_written n small = (omega (arith, ints), omega (arith, ints), (integer_shortest (pos n) (omega (arith, ints)) (omega (arith, ints))).spells)

pub flag_written : (b : Bool) → SpellsContents flag (a_flag b) (written_item (a_flag b))
flag_written true = (255, refl, refl)
flag_written false = (0, refl, refl)

number_back : (n x : ℕ) → x < 256 ^ n → number (big_bytes n x) ≡ x
number_back n x small =
    ap (λ (m : ℕ). big_number m (big_bytes n x)) (length-bytes_high_first n x) ∙ ap (big_number n) (sym (append-nil (big_bytes n x))) ∙ big_number-reads_back n x [] small

time_written : (t : UtcTime) → t.seconds < 2 ^ 32 → t.fraction < 2 ^ 24 → SpellsUtc t (written_time t)
time_written t seconds fraction =
    (big_bytes 4 t.seconds, big_bytes 3 t.fraction, length-bytes_high_first 4 t.seconds, length-bytes_high_first 3 t.fraction, number_back 4 t.seconds seconds, number_back 3 t.fraction fraction, refl)

fixed_written : (size n : ℕ) → IsFixed size n → SpellsFixed size n (big_bytes size n)
fixed_written size n small = (length-bytes_high_first size n, number_back size n small)

-- the value is of the kind, and has a spelling
abbrev pub IsSpellable : Kind → Item → Type 0
IsSpellable text (a_text t) = AreVisible t
IsSpellable a_kind_of_number (a_number n) = IsNumber n
IsSpellable flag (a_flag b) = Unit {0}
IsSpellable time (a_time t) = IsTime t
IsSpellable members (some_members ds) = AllAreSpellable ds 1
IsSpellable (fixed size) (a_fixed count n) = (count ≡ size) × IsFixed count n
IsSpellable raw (some_octets o) = Unit {0}
IsSpellable few (some_octets o) = AreFew o
IsSpellable _ _ = ⊥

item_written : (k : Kind) (x : Item) → IsSpellable k x → length (written_item x) < 2 ^ 32 → SpellsContents k x (written_item x)
item_written text (a_text t) s small = (refl, s)
item_written a_kind_of_number (a_number n) s small = number_written n s
item_written flag (a_flag b) s small = flag_written b
item_written time (a_time t) s small = time_written t s.0 s.1
item_written members (some_members ds) s small = all_written_are_spelled ds 1 s small
item_written (fixed size) (a_fixed count n) (same, s) small = (same, subst (λ (k : ℕ). SpellsFixed k n (big_bytes count n)) same (fixed_written count n s))
item_written raw (some_octets o) s small = refl
item_written few (some_octets o) s small = (refl, s)
item_written _ _ s small = absurd s

-- ---- elements and fields

pub element_written : (id : ℕ) (c : List ℕ) → IsIdentifier id → length c < 2 ^ 32 → Elem id c (written_element id c)
unfolding written_element
element_written id c identifier small = record { identifier = identifier; size = short_length (length c); sized = (length_shortest (length c) small).spells; parts = refl }

-- the values are of the kinds that the fields have, and spellable, and one that is absent may be
abbrev pub Suit : List (Field Kind Item) → List (Option Item) → Type 0
Suit [] [] = Unit {0}
Suit [] (v ∷ vs) = ⊥
Suit (g ∷ gs) [] = ⊥
Suit (g ∷ gs) (None ∷ vs) = AbsenceMeans g.presence None × Suit gs vs
Suit (g ∷ gs) (Some x ∷ vs) = IsIdentifier g.identifier × IsSpellable g.kind x × Suit gs vs

pub fields_written : (gs : List (Field Kind Item)) (vs : List (Option Item)) → Suit gs vs → length (written_fields gs vs) < 2 ^ 32 → SpellsFields contents_grammar gs vs (written_fields gs vs)
fields_written [] [] suit small = refl
fields_written [] (v ∷ vs) suit small = absurd suit
fields_written (g ∷ gs) [] suit small = absurd suit
fields_written (g ∷ gs) (None ∷ vs) (means, suit) small = ([], written_fields gs vs, left_out means refl, fields_written gs vs suit small, refl)
fields_written (g ∷ gs) (Some x ∷ vs) (identifier, spellable, suit) small =
    let first = written_element g.identifier (written_item x) in
    let size : length (written_fields (g ∷ gs) (Some x ∷ vs)) ≡ length first + length (written_fields gs vs) = length-append first (written_fields gs vs) in
    let holds = element_size g.identifier (written_item x) in
    let few : length (written_item x) < 2 ^ 32 = omega (arith, size, holds, small) in
    (first, written_fields gs vs, filled x (written_item x) refl (element_written g.identifier (written_item x) identifier few) (item_written g.kind x spellable few), fields_written gs vs suit (omega (arith, size, small)), refl)

-- ---- the APDU

pub one_octet : (id : ℕ) → eqb (id % 32) 31 ≡ false → IsIdentifier id
one_octet id e = eqb-false (id % 32) 31 e

-- the fields from t on
rest_suits : {A : Type 0} (p : GoosePdu A) → IsSpellableGoose p → Suit (drop 4 goose_fields) (drop 4 (goose_items p))
rest_suits p s = (
  one_octet 0x84 refl,
  s.t,
  (
    one_octet 0x85 refl,
    s.st_num,
    (
      one_octet 0x86 refl,
      s.sq_num,
      (one_octet 0x87 refl, tt, (one_octet 0x88 refl, s.conf_rev, (one_octet 0x89 refl, tt, (one_octet 0x8a refl, s.entries, (one_octet 0xab refl, s.members, tt))))),
    ),
  ),
)

goose_suits : {A : Type 0} (p : GoosePdu A) → IsSpellableGoose p → Suit goose_fields (goose_items p)
goose_suits p s = (one_octet 0x80 refl, s.gocb_ref, (one_octet 0x81 refl, s.live, (one_octet 0x82 refl, s.dat_set, with_id p.go_id s.go_id))) where
  with_id : (id : Option (List ℕ)) → IfSome id AreVisible → Suit (drop 3 goose_fields) (text_if id ∷ drop 4 (goose_items p))
  with_id None t = (refl, rest_suits p s)
  with_id (Some t) visible = (one_octet 0x83 refl, visible, rest_suits p s)

pub written_is_spelled : {A : Type 0} → WrittenIsSpelled A
written_is_spelled p s small = (goose_contents p, element_written 0x61 (goose_contents p) (one_octet 0x61 refl) small, fields_written goose_fields (goose_items p) (goose_suits p s) small)

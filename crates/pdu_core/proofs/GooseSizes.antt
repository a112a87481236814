-- How many octets the fields of an APDU have.
use Rattle.std.proofs.Common.{◌≡◌, ℕ, ◌+◌, pos, true, false, Bool, List, [], ◌∷◌, ◌++◌, length, refl, ap, ap₂, sym, ◌∙◌, ◌≤◌, arith}
use Rattle.std.proofs.lemmas.List.{length-append}
use Rattle.ber_core.specs.Written.{integer_size, short_integer, written_element}
use Rattle.ber_core.proofs.WrittenLemmas.{integer_size_bounds}
use Rattle.mms_data.specs.Written.{header_size, written_all, written_time}
use Rattle.mms_data.specs.declared.time.UtcTime.{UtcTime}
use Rattle.mms_data.proofs.WrittenSizes.{element_size, integer_count, time_size}
use Rattle.pdu_core.specs.Contents.{a_flag}
use Rattle.pdu_core.specs.Goose.{text_if}
use Rattle.pdu_core.specs.Written.{goose_contents, written_field, written_goose, written_item}
use Rattle.pdu_core.specs.declared.goose.GoosePdu.{GoosePdu}

-- one part, and those behind it
pub joined : (a b : List ℕ) (n m : ℕ) → length a ≡ n → length b ≡ m → length (a ++ b) ≡ n + m
joined a b n m first rest = length-append a b ∙ ap₂ (λ (i j : ℕ). i + j) first rest

-- a few octets of contents have a header of two
short_size : (n : ℕ) → n ≤ 9 → header_size n ≡ 2
short_size n few = grind arith

-- a number has its contents, one octet of length and one of identifier
number_size : (id n : ℕ) → length (written_element id (short_integer (pos n))) ≡ 2 + integer_size (pos n)
number_size id n =
    let count = integer_count (pos n) in
    let short = short_size (integer_size (pos n)) (integer_size_bounds (pos n)).1 in
    element_size id (short_integer (pos n)) ∙ ap (λ (m : ℕ). header_size m + m) count ∙ ap (λ (m : ℕ). m + integer_size (pos n)) short

time_field_size : (id : ℕ) (t : UtcTime) → length (written_element id (written_time t)) ≡ 10
time_field_size id t = element_size id (written_time t) ∙ ap (λ (m : ℕ). header_size m + m) (time_size t)

flag_size : (id : ℕ) (b : Bool) → length (written_element id (written_item (a_flag b))) ≡ 3
flag_size id true = element_size id (255 ∷ [])
flag_size id false = element_size id (0 ∷ [])

-- how many octets the contents of an APDU's element have
pub contents_size : {A : Type 0} (p : GoosePdu A) → length (goose_contents p) ≡
    (header_size (length p.gocb_ref) + length p.gocb_ref)
    + ((2 + integer_size (pos p.live))
    + ((header_size (length p.dat_set) + length p.dat_set)
    + (length (written_field 0x83 (text_if p.go_id))
    + (10
    + ((2 + integer_size (pos p.st_num))
    + ((2 + integer_size (pos p.sq_num))
    + (3
    + ((2 + integer_size (pos p.conf_rev))
    + (3
    + ((2 + integer_size (pos (length p.members)))
    + ((header_size (length (written_all p.members)) + length (written_all p.members))
    + 0)))))))))))
contents_size p =
    joined _ _ _ _ (element_size 0x80 p.gocb_ref)
    (joined _ _ _ _ (number_size 0x81 p.live)
    (joined _ _ _ _ (element_size 0x82 p.dat_set)
    (joined (written_field 0x83 (text_if p.go_id)) _ _ _ refl
    (joined _ _ _ _ (time_field_size 0x84 p.t)
    (joined _ _ _ _ (number_size 0x85 p.st_num)
    (joined _ _ _ _ (number_size 0x86 p.sq_num)
    (joined _ _ _ _ (flag_size 0x87 p.simulation)
    (joined _ _ _ _ (number_size 0x88 p.conf_rev)
    (joined _ _ _ _ (flag_size 0x89 p.nds_com)
    (joined _ _ _ _ (number_size 0x8a (length p.members))
    (joined _ _ _ _ (element_size 0xab (written_all p.members)) refl)))))))))))

-- how many octets the written form has
pub goose_size : {A : Type 0} (p : GoosePdu A) (n : ℕ) → n ≡ length (goose_contents p) → header_size n + n ≡ length (written_goose p)
goose_size p n same = ap (λ (m : ℕ). header_size m + m) same ∙ sym (element_size 0x61 (goose_contents p))

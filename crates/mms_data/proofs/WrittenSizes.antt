-- The sizes of written forms, and the written form of members one more at a time.
use Rattle.std.proofs.Common.{◌≡◌, ℕ, zero, suc, ◌+◌, ◌<◌, Bool, true, false, cond, ltb, List, [], ◌∷◌, ◌++◌, length, drop, get_or, refl, arith}
use Rattle.std.proofs.lemmas.List.{length-append}
use Rattle.std.specs.Prelude.{ℤ}
use Rattle.byteorder.specs.Endian.{big_bytes}
use Rattle.byteorder.specs.Numbers.{length-bytes_high_first}
use Rattle.ber_core.specs.Written.{number_size, short_length, short_integer, integer_size, written_element}
use Rattle.ber_core.proofs.WrittenLemmas.{length-short_integer}
use Rattle.mms_data.specs.Data.{Data, simple, array, structure}
use Rattle.mms_data.specs.declared.time.UtcTime.{UtcTime}
use Rattle.mms_data.specs.declared.value.Value.{Value}
use Rattle.mms_data.specs.Value.{data_of, datas}
use Rattle.mms_data.specs.Written.{written_time, written, written_all, written_contents, header_size}

by_test : (b : Bool) (n : ℕ) → cond b 2 (2 + number_size n) ≡ 1 + length (cond b (n ∷ []) ((128 + number_size n) ∷ big_bytes (number_size n) n))
by_test true n = refl
by_test false n = omega (arith, length-bytes_high_first (number_size n) n)

-- the octets of a header
pub length_size : (n : ℕ) → header_size n ≡ 1 + length (short_length n)
unfolding short_length
length_size n = by_test (ltb n 128) n

pub element_size : (id : ℕ) (c : List ℕ) → length (written_element id c) ≡ header_size (length c) + length c
unfolding written_element
element_size id c = omega (arith, length_size (length c), length-append (short_length (length c)) c)

pub written_size : (d : Data) → length (written d) ≡ header_size (length (written_contents d)) + length (written_contents d)
written_size (simple s) = element_size _ _
written_size (array ds) = element_size _ _
written_size (structure ds) = element_size _ _

pub time_size : (t : UtcTime) → length (written_time t) ≡ 8
time_size t = omega (arith, length-append (big_bytes 4 t.seconds) (big_bytes 3 t.fraction ++ t.quality ∷ []), length-append (big_bytes 3 t.fraction) (t.quality ∷ []), length-bytes_high_first 4 t.seconds, length-bytes_high_first 3 t.fraction)

pub integer_count : (n : ℤ) → length (short_integer n) ≡ integer_size n
integer_count n = length-short_integer n

-- the first of the members that are left
pub written_at : {A : Type 0} (vs : List (Value A)) (i : ℕ) (d : Value A) → i < length vs
    → written_all (datas (drop i vs)) ≡ written (data_of (get_or vs i d)) ++ written_all (datas (drop (suc i) vs))
written_at [] i d h = absurd (omega arith)
written_at (v ∷ vs) zero d h = refl
written_at (v ∷ vs) (suc i) d h = written_at vs i d (omega arith)

-- The contents are no longer than the element.
pub contents_within : (d : Data) (n : ℕ) → length (written d) < n → length (written_contents d) < n
contents_within d n h = omega (arith, written_size d)

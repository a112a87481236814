-- The written spellings. Of the spellings of a length, and of an integer, the one with the fewest octets is written.
use Rattle.std.specs.Prelude.{◌≤◌, ◌+◌, ◌^◌, ℕ, ℤ, pos, negsuc, List, [], ◌∷◌, ◌++◌, length, nat_lt, if◌then◌else◌}
use Rattle.std.specs.Int.{w128}
use Rattle.byteorder.specs.Endian.{big_bytes, low_bytes}
use Rattle.ber_core.specs.Length.{AreOctets}

-- o is a spelling, and no spelling has fewer octets
pub record IsShortest (Spells : List ℕ → Type 0) (o : List ℕ) : Type 0 where
  pub octets : AreOctets o
  pub spells : Spells o
  pub fewest : (other : List ℕ) → AreOctets other → Spells other → length o ≤ length other

-- the fewest octets, from 1 to 4, that hold a number
abbrev pub number_size : ℕ → ℕ
number_size n = if nat_lt n (2 ^ 8) then 1 else (if nat_lt n (2 ^ 16) then 2 else (if nat_lt n (2 ^ 24) then 3 else 4))

-- the written form of a length
unfoldable pub short_length : ℕ → List ℕ
short_length n = if nat_lt n 128 then n ∷ [] else (128 + number_size n) ∷ big_bytes (number_size n) n

-- the fewest octets, from 1 to 9, that hold n beside a sign bit
abbrev pub signed_size : ℕ → ℕ
signed_size n = if nat_lt n (2 ^ 7) then 1 else (if nat_lt n (2 ^ 15) then 2 else (if nat_lt n (2 ^ 23) then 3 else (if nat_lt n (2 ^ 31) then 4 else
    (if nat_lt n (2 ^ 39) then 5 else (if nat_lt n (2 ^ 47) then 6 else (if nat_lt n (2 ^ 55) then 7 else (if nat_lt n (2 ^ 63) then 8 else 9)))))))

-- the same for an integer: -1 - n takes as many as n
unfoldable pub integer_size : ℤ → ℕ
integer_size (pos n) = signed_size n
integer_size (negsuc n) = signed_size n

-- the written form of an integer
unfoldable pub short_integer : ℤ → List ℕ
short_integer n = big_bytes (integer_size n) (low_bytes w128 (integer_size n) n)

-- the written form of an identifier and a length
abbrev pub written_header : ℕ → ℕ → List ℕ
written_header id size = id ∷ short_length size

-- the written form of an element
unfoldable pub written_element : ℕ → List ℕ → List ℕ
written_element id contents = written_header id (length contents) ++ contents

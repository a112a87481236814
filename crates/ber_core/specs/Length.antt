-- The spellings of a length (ISO/IEC 8825-1, 8.1.3).
use Rattle.std.specs.Prelude.{◌≡◌, ◌⊎◌, ◌≤◌, ◌<◌, ◌+◌, ℕ, List, [], ◌∷◌, length, slice_index}
use Rattle.byteorder.specs.Endian.{big_number}

-- each octet is below 256
abbrev pub AreOctets : List ℕ → Type 0
AreOctets o = (i : ℕ) → slice_index o i < 256

-- the number that octets spell, the most significant first
abbrev pub number : List ℕ → ℕ
number o = big_number (length o) o

-- o spells the length n: in one octet, n itself, at most 127; or in a first octet, 128 and the count of the
-- octets that follow it, which are 1 to 4 and whose number is n (profile: at most four)
abbrev pub Len : ℕ → List ℕ → Type 0
Len n [] = ⊥
Len n (first ∷ more) = ((more ≡ []) × (first ≡ n) × (n ≤ 127)) ⊎ ((first ≡ 128 + length more) × (1 ≤ length more) × (length more ≤ 4) × (number more ≡ n))

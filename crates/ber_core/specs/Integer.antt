-- The spellings of an integer (ISO/IEC 8825-1, 8.3).
use Rattle.std.specs.Prelude.{◌≡◌, ◌≤◌, ℕ, ℤ, List, length}
use Rattle.byteorder.specs.Endian.{twos_complement}
use Rattle.ber_core.specs.Length.{number}

-- o has 1 to 9 octets, and their number in two's complement is n (profile: at most nine, also where fewer would do)
abbrev pub Int : ℤ → List ℕ → Type 0
Int n o = (1 ≤ length o) × (length o ≤ 9) × (twos_complement (length o) (number o) ≡ n)

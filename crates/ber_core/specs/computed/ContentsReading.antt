-- Reading the contents of one element as functions on octets. Laws in both directions tie each to what contents
-- spell and to their fault. The element stands at the place at, and its contents at the place from.
use Rattle.std.specs.Prelude.{◌+◌, ◌==◌, ◌||◌, ◌&&◌, ℕ, ℤ, pos, negsuc, Bool, not, List, [], ◌∷◌, length, Result, Ok, nat_lt, if◌then◌else◌}
use lib.Signed.{le_z}
use Rattle.byteorder.specs.Endian.{twos_complement}
use Rattle.ber_core.specs.Length.{number}
use Rattle.ber_core.specs.computed.Reading.{refused, ◌>>=◌}
use Rattle.ber_core.specs.declared.fault.Fault.{Fault}
use Rattle.ber_core.specs.declared.fault.Cause.TheVariants as causes
use Rattle.ber_core.specs.Contents.{is_visible}

-- the boolean of contents
unfoldable pub boolean_at : ℕ → List ℕ → Result Bool Fault
boolean_at at [] = refused (at + 1) causes.BooleanLength
boolean_at at (n ∷ []) = Ok (not (n == 0))
boolean_at at (n ∷ m ∷ more) = refused (at + 1) causes.BooleanLength

-- a number that has to lie between low and high
abbrev pub in_range : ℤ → ℤ → ℕ → ℤ → Result ℤ Fault
in_range low high from n = if le_z low n && le_z n high then Ok n else refused from causes.IntegerRange

-- the integer of contents
unfoldable pub any_integer_at : ℕ → List ℕ → Result ℤ Fault
any_integer_at at c = if length c == 0 || nat_lt 9 (length c) then refused (at + 1) causes.IntegerLength else Ok (twos_complement (length c) (number c))

-- the same, where it has to lie between low and high
unfoldable pub integer_at : ℤ → ℤ → ℕ → ℕ → List ℕ → Result ℤ Fault
integer_at low high at from c = any_integer_at at c >>= in_range low high from

-- a number that is no less than 0, without its sign
abbrev pub natural : ℤ → ℕ
natural (pos n) = n
natural (negsuc n) = 0

-- nothing, unless one of the octets, which stand at from, is not visible
unfoldable pub all_visible_at : ℕ → List ℕ → Result (Unit {0}) Fault
all_visible_at from [] = Ok tt
all_visible_at from (x ∷ more) = if is_visible x then all_visible_at (from + 1) more else refused from causes.NotVisible

-- the text of contents
abbrev pub visible_at : ℕ → List ℕ → Result (List ℕ) Fault
visible_at from c = all_visible_at from c >>= λ _. Ok c

-- the contents themselves, where they have the stated count of octets
unfoldable pub counted_at : ℕ → ℕ → List ℕ → Result (List ℕ) Fault
counted_at count at c = if length c == count then Ok c else refused (at + 1) causes.FixedLength

-- Reading contents of the kinds without members as a function on octets: p is the identifier's place, s that of
-- the first octet of contents. Laws in both directions tie it to the spellings and the faults.
use Rattle.std.specs.Prelude.{◌+◌, ℕ, pos, Bool, ◌||◌, ◌&&◌, ◌==◌, nat_le, if◌then◌else◌, List, [], ◌∷◌, length, Result, Ok}
use Rattle.ber_core.specs.computed.ContentsReading.{boolean_at, integer_at, natural, visible_at}
use Rattle.ber_core.specs.computed.Reading.{◌>>=◌, refused}
use Rattle.ber_core.specs.declared.fault.Fault.{Fault}
use Rattle.ber_core.specs.declared.fault.Cause.TheVariants as causes
use Rattle.mms_data.specs.Contents.{cleared, least_signed, most_signed, most_unsigned}
use Rattle.mms_data.specs.Data.{Simple, boolean, bits, integer, unsigned, floating, octets, visible, binary_time, mms_text, utc}
use Rattle.mms_data.specs.declared.kinds.SimpleKind.{SimpleKind}
use Rattle.mms_data.specs.declared.kinds.SimpleKind.TheVariants as kinds
use Rattle.mms_data.specs.computed.UtcReading.{utc_at}

-- an unsigned number, of 64 bits
abbrev pub unsigned_at : ℕ → ℕ → List ℕ → Result ℕ Fault
unsigned_at p s c = integer_at (pos 0) most_unsigned p s c >>= λ n. Ok (natural n)

-- contents whose count of octets is good are kept as they are
abbrev pub counted_if : Bool → ℕ → List ℕ → Result (List ℕ) Fault
counted_if is_good p c = if is_good then Ok c else refused (p + 1) causes.FixedLength

abbrev pub is_few_octets : ℕ → Bool
is_few_octets n = nat_le 1 n && nat_le n 16

abbrev pub is_time_count : ℕ → Bool
is_time_count n = n == 4 || n == 6

abbrev pub is_unused : ℕ → List ℕ → Bool
is_unused unused [] = unused == 0
is_unused unused (first ∷ more) = nat_le unused 7

-- the count of unused bits, and the octets as they stand
abbrev pub bits_at : ℕ → List ℕ → Result (ℕ × List ℕ) Fault
bits_at s [] = refused s causes.BitUnused
bits_at s (unused ∷ more) = if is_unused unused more then Ok (unused, more) else refused s causes.BitUnused

-- the value that contents of a kind spell
unfoldable pub simple_at : SimpleKind → ℕ → ℕ → List ℕ → Result Simple Fault
simple_at kinds.Boolean p s c = boolean_at p c >>= λ b. Ok (boolean b)
simple_at kinds.BitString p s c = bits_at s c >>= λ x. Ok (bits x.0 (cleared x.0 x.1))
simple_at kinds.Integer p s c = integer_at least_signed most_signed p s c >>= λ n. Ok (integer n)
simple_at kinds.Unsigned p s c = unsigned_at p s c >>= λ n. Ok (unsigned n)
simple_at kinds.FloatingPoint p s c = counted_if (is_few_octets (length c)) p c >>= λ o. Ok (floating o)
simple_at kinds.OctetString p s c = Ok (octets c)
simple_at kinds.VisibleString p s c = visible_at s c >>= λ text. Ok (visible text)
simple_at kinds.BinaryTime p s c = counted_if (is_time_count (length c)) p c >>= λ o. Ok (binary_time o)
simple_at kinds.MmsString p s c = Ok (mms_text c)
simple_at kinds.UtcTime p s c = utc_at p c >>= λ t. Ok (utc t)

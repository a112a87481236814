-- The contents of the kinds without members (ISO 9506-2, Data; ISO/IEC 8825-1, 8.2, 8.3, 8.6 and 8.23), and what is
-- wrong with contents.
use Rattle.std.specs.Prelude.{◌≡◌, ◌≤◌, ◌≤ℤ◌, ◌+◌, ◌-◌, ◌^◌, ◌%◌, ◌⊎◌, ℕ, ℤ, pos, negsuc, List, [], ◌∷◌, length}
use Rattle.ber_core.specs.Contents.{SpellsBoolean, BooleanFault, SpellsInteger, IntegerFault, SpellsVisible, VisibleFault, CountedFault}
use Rattle.ber_core.specs.Faults.{fault_of}
use Rattle.ber_core.specs.declared.fault.Fault.{Fault}
use Rattle.ber_core.specs.declared.fault.Cause.TheVariants as causes
use Rattle.mms_data.specs.Data.{Simple, boolean, bits, integer, unsigned, floating, octets, visible, binary_time, mms_text, utc}
use Rattle.mms_data.specs.declared.kinds.SimpleKind.{SimpleKind}
use Rattle.mms_data.specs.declared.kinds.SimpleKind.TheVariants as kinds
use Rattle.mms_data.specs.Utc.{SpellsUtc}

-- profile: a signed number lies from -2^63 to 2^63 - 1: the least
abbrev pub least_signed : ℤ
least_signed = negsuc (2 ^ 63 - 1)

-- and the greatest
abbrev pub most_signed : ℤ
most_signed = pos (2 ^ 63 - 1)

-- profile: an unsigned number lies from 0 to 2^64 - 1: the greatest
abbrev pub most_unsigned : ℤ
most_unsigned = pos (2 ^ 64 - 1)

-- a number that a signed integer may have
abbrev pub IsSigned : ℤ → Type 0
IsSigned n = (least_signed ≤ℤ n) × (n ≤ℤ most_signed)

-- a number that an unsigned integer may have
abbrev pub IsUnsigned : ℤ → Type 0
IsUnsigned n = (pos 0 ≤ℤ n) × (n ≤ℤ most_unsigned)

-- profile: a floating-point number has 1 to 16 octets
abbrev pub IsFewOctets : ℕ → Type 0
IsFewOctets n = (1 ≤ n) × (n ≤ 16)

-- a binary time has 4 or 6 octets (ISO 9506-2)
abbrev pub IsTimeCount : ℕ → Type 0
IsTimeCount n = (n ≡ 4) ⊎ (n ≡ 6)

-- octets, the unused low bits of the last set to 0
abbrev pub cleared : ℕ → List ℕ → List ℕ
cleared unused [] = []
cleared unused (last ∷ []) = (last - last % 2 ^ unused) ∷ []
cleared unused (first ∷ next ∷ more) = first ∷ cleared unused (next ∷ more)

-- the count of unused bits is at most 7, and 0 where no octets follow it
abbrev pub IsUnused : ℕ → List ℕ → Type 0
IsUnused unused [] = unused ≡ 0
IsUnused unused (first ∷ more) = unused ≤ 7

-- contents of a bit string (ISO/IEC 8825-1, 8.6): the count of unused bits, then octets, whose unused bits may have
-- any value
abbrev pub SpellsBits : ℕ → List ℕ → List ℕ → Type 0
SpellsBits unused ns [] = ⊥
SpellsBits unused ns (count ∷ more) = (count ≡ unused) × IsUnused count more × (ns ≡ cleared count more)

-- c are contents that spell the value, by its kind; those of octets and of texts are the octets themselves, with the
-- counts and the characters that the kind has
abbrev pub SpellsSimple : Simple → List ℕ → Type 0
SpellsSimple (boolean b) c = SpellsBoolean b c
SpellsSimple (bits unused ns) c = SpellsBits unused ns c
SpellsSimple (integer n) c = SpellsInteger least_signed most_signed n c
SpellsSimple (unsigned n) c = SpellsInteger (pos 0) most_unsigned (pos n) c
SpellsSimple (floating ns) c = (c ≡ ns) × IsFewOctets (length ns)
SpellsSimple (octets ns) c = c ≡ ns
SpellsSimple (visible ns) c = SpellsVisible ns c
SpellsSimple (binary_time ns) c = (c ≡ ns) × IsTimeCount (length ns)
SpellsSimple (mms_text ns) c = c ≡ ns
SpellsSimple (utc t) c = SpellsUtc t c

-- ---- faults: p is the identifier's place, s that of the first octet of contents

-- no count of unused bits, or a wrong one: the fault is at the first place of the contents
abbrev pub BitsFault : Fault → ℕ → List ℕ → Type 0
BitsFault f s [] = f ≡ fault_of s causes.BitUnused
BitsFault f s (unused ∷ more) = (f ≡ fault_of s causes.BitUnused) × ¬ IsUnused unused more

-- what is wrong with contents c that spell no value of the kind; any contents are an octet string, and an MMS string
abbrev pub SimpleFault : Fault → SimpleKind → ℕ → ℕ → List ℕ → Type 0
SimpleFault f kinds.Boolean p s c = BooleanFault f p c
SimpleFault f kinds.BitString p s c = BitsFault f s c
SimpleFault f kinds.Integer p s c = IntegerFault f least_signed most_signed p s c
SimpleFault f kinds.Unsigned p s c = IntegerFault f (pos 0) most_unsigned p s c
SimpleFault f kinds.FloatingPoint p s c = (f ≡ fault_of (p + 1) causes.FixedLength) × ¬ IsFewOctets (length c)
SimpleFault f kinds.OctetString p s c = ⊥
SimpleFault f kinds.VisibleString p s c = VisibleFault f s c
SimpleFault f kinds.BinaryTime p s c = (f ≡ fault_of (p + 1) causes.FixedLength) × ¬ IsTimeCount (length c)
SimpleFault f kinds.MmsString p s c = ⊥
SimpleFault f kinds.UtcTime p s c = CountedFault f 8 p c

-- The contents of a UtcTime (IEC 61850-8-1, 8.1.3.6): seconds since 1970-01-01 UTC, the fraction of a second in units
-- of 2^-24, and the time quality.
use Rattle.std.specs.Prelude.{◌≡◌, ℕ, List, [], ◌∷◌, ◌++◌, length, drop, slice_index}
use Rattle.byteorder.specs.Endian.{big_number}
use Rattle.ber_core.specs.Length.{number}
use Rattle.mms_data.specs.declared.time.UtcTime.{UtcTime}

-- c is four octets, the seconds, three octets, the fraction, both with the most significant octet first, and one
-- octet, the quality (IEC 61850-8-1, 8.1.3.6)
abbrev pub SpellsUtc : UtcTime → List ℕ → Type 0
SpellsUtc t c = (seconds fraction : List ℕ) × (length seconds ≡ 4) × (length fraction ≡ 3) × (number seconds ≡ t.seconds) × (number fraction ≡ t.fraction)
    × (c ≡ seconds ++ (fraction ++ t.quality ∷ []))

-- the time that eight octets spell
abbrev pub utc_of : List ℕ → UtcTime
utc_of c = record { seconds = big_number 4 c; fraction = big_number 3 (drop 4 c); quality = slice_index c 7 }

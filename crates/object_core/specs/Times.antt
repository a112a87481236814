-- A moment in UTC (IEC 61850-8-1, UtcTime) as fields of an object.
use Rattle.std.specs.Prelude.{ℕ, ◌+◌, ◌*◌, ◌/◌, ◌%◌, ◌^◌, ◌==◌, List, [], ◌∷◌, codes}
use Rattle.std.specs.Fmt.{decimal}
use Rattle.mms_data.specs.declared.time.UtcTime.{UtcTime}
use Rattle.text_core.specs.Pieces.{boolean_text}
use Rattle.text_core.specs.ValueText.{time_text}
use Rattle.object_core.specs.Objects.{Field, object, in_quotes, date_value}

-- the microseconds since 1970; what is less than one is cut off
abbrev pub moment_of : UtcTime → ℕ
moment_of t = t.seconds * 1000000 + t.fraction * 1000000 / 2 ^ 24

-- a flag of a quality octet
abbrev pub flag : ℕ → ℕ → List ℕ
flag quality weight = boolean_text (quality / weight % 2 == 1)

-- the flags and the accuracy of a quality octet: 80, 40, 20, and the low five bits
unfoldable pub quality_value : ℕ → List ℕ
quality_value quality =
    object ((codes "leapSecondsKnown", flag quality 0x80) ∷ (codes "clockFailure", flag quality 0x40)
    ∷ (codes "clockNotSynchronized", flag quality 0x20) ∷ (codes "timeAccuracy", decimal (quality % 32)) ∷ [])

-- the octets, the date and the quality of a moment, under these names
abbrev pub time_fields : List ℕ → List ℕ → List ℕ → UtcTime → List Field
time_fields octets date quality t = (octets, in_quotes (time_text t)) ∷ (date, date_value (moment_of t)) ∷ (quality, quality_value t.quality) ∷ []

-- Judging what stands before the APDU of a frame, from left to right, with the first fault that is met.
use Rattle.std.specs.Prelude.{◌+◌, ℕ, List, length, Result, Ok, nat_lt, ◌||◌, if◌then◌else◌}
use Rattle.ber_core.specs.computed.Reading.{refused}
use Rattle.ber_core.specs.declared.fault.Fault.{Fault}
use Rattle.ber_core.specs.declared.fault.Cause.TheVariants as causes
use Rattle.frame_core.specs.computed.ApduReading.{is_apdu_type}
use Rattle.frame_core.specs.Envelope.{ether_place, word_at}

-- judging the envelope from left to right, where p is the place of the EtherType
unfoldable pub envelope_at : ℕ → List ℕ → Result (Unit {0}) Fault
envelope_at p o =
    if nat_lt (length o) (p + 2) then refused (length o) causes.Truncated
    else (if is_apdu_type (word_at o p) then (
    if nat_lt (length o) (p + 10) then refused (length o) causes.Truncated
    else (if nat_lt (word_at o (p + 4)) 8 || nat_lt 1500 (word_at o (p + 4)) then refused (p + 4) causes.LengthField
    else (if nat_lt (length o) (p + 2 + word_at o (p + 4)) then refused (length o) causes.Truncated else Ok tt)))
    else refused p causes.EtherType)

-- judging it whole
unfoldable pub envelope_judged : List ℕ → Result (Unit {0}) Fault
envelope_judged o =
    if nat_lt 1600 (length o) then refused 1600 causes.FrameTooLong
    else (if nat_lt (length o) 14 then refused (length o) causes.Truncated else envelope_at (ether_place o) o)

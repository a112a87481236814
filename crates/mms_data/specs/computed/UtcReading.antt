-- Reading the contents of a UtcTime as a function on octets. The element stands at the place at, and its contents are c.
use Rattle.std.specs.Prelude.{◌+◌, ◌==◌, ℕ, List, length, Result, Ok, if◌then◌else◌}
use Rattle.ber_core.specs.computed.Reading.{refused}
use Rattle.ber_core.specs.declared.fault.Fault.{Fault}
use Rattle.ber_core.specs.declared.fault.Cause.TheVariants as causes
use Rattle.mms_data.specs.Utc.{utc_of}
use Rattle.mms_data.specs.declared.time.UtcTime.{UtcTime}

-- the time of contents
unfoldable pub utc_at : ℕ → List ℕ → Result UtcTime Fault
utc_at at c = if length c == 8 then Ok (utc_of c) else refused (at + 1) causes.FixedLength

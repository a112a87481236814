-- Reading the kind of a member from its identifier, as a function on octets.
use Rattle.std.specs.Prelude.{ℕ, ◌%◌, Option, Some, None, Result, Ok, ◌==◌, if◌then◌else◌}
use Rattle.ber_core.specs.declared.fault.Fault.{Fault}
use Rattle.ber_core.specs.declared.fault.Cause.TheVariants as causes
use Rattle.ber_core.specs.computed.Reading.{refused}
use Rattle.mms_data.specs.declared.kinds.Kind.{Kind}
use Rattle.mms_data.specs.declared.kinds.Kind.TheVariants.{Array, Structure, Simple as of_kind}
use Rattle.mms_data.specs.declared.kinds.SimpleKind.TheVariants as kinds

-- the kind that an identifier announces
unfoldable pub kind_at : ℕ → Option Kind
kind_at id =
    if id == 0xa1 then Some Array else (if id == 0xa2 then Some Structure
    else (if id == 0x83 then Some (of_kind kinds.Boolean) else (if id == 0x84 then Some (of_kind kinds.BitString)
    else (if id == 0x85 then Some (of_kind kinds.Integer) else (if id == 0x86 then Some (of_kind kinds.Unsigned)
    else (if id == 0x87 then Some (of_kind kinds.FloatingPoint) else (if id == 0x89 then Some (of_kind kinds.OctetString)
    else (if id == 0x8a then Some (of_kind kinds.VisibleString) else (if id == 0x8c then Some (of_kind kinds.BinaryTime)
    else (if id == 0x90 then Some (of_kind kinds.MmsString) else (if id == 0x91 then Some (of_kind kinds.UtcTime) else None)))))))))))

-- the kind, or the fault of an identifier that stands at the place p and announces none
abbrev pub kind_or : ℕ → Option Kind → Result Kind Fault
kind_or p (Some k) = Ok k
kind_or p None = refused p causes.UnexpectedTag

-- the kind of a member whose identifier stands at the place p
abbrev pub kind_here : ℕ → ℕ → Result Kind Fault
kind_here p id = if id % 32 == 31 then refused p causes.HighTag else kind_or p (kind_at id)

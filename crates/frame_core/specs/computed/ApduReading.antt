-- Reading the APDU that an EtherType announces, as a function on octets and places.
use Rattle.std.specs.Prelude.{◌==◌, ℕ, List, Result, Ok, if◌then◌else◌, ◌||◌, Bool}
use Rattle.ber_core.specs.computed.Reading.{refused, ◌>>=◌}
use Rattle.ber_core.specs.declared.fault.Fault.{Fault}
use Rattle.ber_core.specs.declared.fault.Cause.TheVariants as causes
use Rattle.pdu_core.specs.computed.GooseValue.{goose_value}
use Rattle.pdu_core.specs.computed.SampledValue.{sv_value}
use Rattle.frame_core.specs.declared.frame.Apdu.{Apdu}
use Rattle.frame_core.specs.declared.frame.Apdu.TheVariants as apdus

-- whether an EtherType announces an APDU, as a test
abbrev pub is_apdu_type : ℕ → Bool
is_apdu_type t = t == 0x88b8 || t == 0x88ba

-- the APDU that the EtherType t announces, which fills the octets from p to e
abbrev pub apdu_value : {A : Type 0} → ℕ → List ℕ → ℕ → ℕ → Result (Apdu A) Fault
apdu_value t octets p e =
    if t == 0x88b8 then (goose_value octets p e >>= λ u. Ok (apdus.Goose u))
    else (if t == 0x88ba then (sv_value octets p e >>= λ u. Ok (apdus.Sampled u)) else refused p causes.EtherType)

-- What private calls promise of a record.
use Rattle.std.specs.Prelude.{◌≡◌, ◌+◌, ◌==◌, ℕ, nat_le, if◌then◌else◌, Option, Some, None, Result, Ok, Err}
use Rattle.list_core.specs.declared.device.InputEnd.{InputEnd}
use Rattle.list_core.specs.Lines.{Stop, finished, faulty}
use Rattle.capture_core.specs.Capture.{cut, ended, fault_in}
use Rattle.capture_core.specs.declared.capture_fault.CaptureFault.{CaptureFault}
use Rattle.capture_core.specs.declared.capture_fault.CaptureCause.TheVariants.{TooManyRecords}
use Rattle.capture_core.specs.declared.record.Captured.{Captured}

-- how records stop whose octets end so many octets into the head of the one after n others
abbrev pub short_stop : InputEnd → ℕ → ℕ → Stop CaptureFault
short_stop z n count = if count == 0 then ended z (n + 1) else (if nat_le 999999 n then fault_in (n + 1) TooManyRecords else cut z (n + 1))

-- an answer that tells this stop, and no record
abbrev pub StopsBy : Result (Option Captured) CaptureFault → Stop CaptureFault → Type 0
StopsBy (Ok (Some c)) s = ⊥
StopsBy (Ok None) s = s ≡ finished
StopsBy (Err f) s = s ≡ faulty f

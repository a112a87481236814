-- What one answer of a reader of records makes `import` write.
use Rattle.std.specs.Prelude.{◌≡◌, ◌+◌, ℕ, List, [], Option, Some, None, Result, Ok, Err}
use Rattle.std.specs.Io.KnownBytes.{Appends}
use Rattle.list_core.specs.Device.{AppendsPrefix}
use Rattle.capture_core.specs.Capture.{CaptureRecord}
use Rattle.capture_core.specs.declared.capture_fault.CaptureFault.{CaptureFault}
use Rattle.engine_core.specs.declared.running.Next.{Next}
use Rattle.engine_core.specs.declared.running.Next.TheVariants as next
use Rattle.engine_core.specs.declared.stopped.Halt.{Halt}
use Rattle.engine_core.specs.declared.stopped.Halt.TheVariants as halt
use Rattle.frame_engines.specs.ImportText.{capture_fault_line, is_left_out, record_line}

-- the text that an answer behind n records asks for
abbrev pub import_due : ℕ → Result (Option CaptureRecord) CaptureFault → List ℕ
import_due n (Ok (Some r)) = record_line (n + 1, r)
import_due n (Ok None) = []
import_due n (Err f) = capture_fault_line f

-- what is written of an answer behind n records at which the run stops: the line of its fault, which is handed out; or a prefix of what is due, where the writer failed
abbrev pub ImportHalts : ℕ → Result (Option CaptureRecord) CaptureFault → Halt CaptureFault → Option (List ℕ) → Option (List ℕ) → Type 0
ImportHalts n answer (halt.Fault why) old new = (answer ≡ Err why) × Appends old new (capture_fault_line why)
ImportHalts n answer halt.WriteFault old new = AppendsPrefix old new (import_due n answer)
ImportHalts n answer halt.Memory old new = ⊥

-- what is written after an answer behind n records, and how the run goes on
abbrev pub ImportWrites : ℕ → Result (Option CaptureRecord) CaptureFault → Next CaptureFault → Option (List ℕ) → Option (List ℕ) → Type 0
ImportWrites n answer (next.Wrote found) old new = (r : CaptureRecord) × (answer ≡ Ok (Some r)) × (found ≡ is_left_out (n + 1, r)) × Appends old new (record_line (n + 1, r))
ImportWrites n answer next.Ended old new = (answer ≡ Ok None) × (new ≡ old)
ImportWrites n answer (next.Stop halt) old new = ImportHalts n answer halt old new

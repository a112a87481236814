use Rattle.std.proofs.Common.{◌≡◌, length}
use Rattle.std.specs.Io.KnownBytes.{Keeps}
use Rattle.goose.proofs.patient.PatientRead.read.Given as goal

-- a try that is made again has taken nothing
abbrev pub invariant-loop-turn : goal.invariant-loop-turn
invariant-loop-turn g l = (length l.buf ≡ length l.initial.buf) × Keeps (g.R.Read.remaining l.initial.self.device) (g.R.Read.remaining l.self.device)

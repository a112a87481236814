use Rattle.std.specs.Io.KnownBytes.{Keeps}
use Rattle.goose.proofs.patient.PatientWrite.write.Given as goal

-- a try that is made again has taken nothing
abbrev pub invariant-loop-turn : goal.invariant-loop-turn
invariant-loop-turn g l = Keeps (g.W.Write.contents l.initial.self.device) (g.W.Write.contents l.self.device)

use Rattle.std.proofs.Common.{refl, ◌∙◌, arith}
use Rattle.capture_core.proofs.StepsTogether.{passes_answers, passes_none, passes_passes}
use Rattle.capture_core.proofs.packet_reader.PacketReader.next_by_steps.Goals as goal

pub steps-init : goal.steps-init
steps-init g c = record { passed = passes_none _; number = refl; few = omega arith }

pub steps-preserved : goal.steps-preserved
steps-preserved g c = record {
  passed = passes_passes _ _ _ c.steps.invariant.passed c.in-Passed.ensures.0;
  number = c.in-Passed.ensures.2 ∙ c.steps.invariant.number;
  few = omega (arith, c.steps.invariant.few, c.in-Passed.ensures.1);
}

pub returns-in-Answered-clause-packet : goal.returns-in-Answered-clause-packet
returns-in-Answered-clause-packet g c = passes_answers _ _ _ _ c.steps.invariant.passed c.in-Answered.ensures.0

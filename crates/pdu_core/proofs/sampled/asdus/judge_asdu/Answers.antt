use Rattle.pdu_core.specs.SampledViews.{asdu_of}
use Rattle.pdu_core.proofs.sampled.asdus.judge_asdu.Goals as goal

pub returns-in-Some-clause-found : goal.returns-in-Some-clause-found
returns-in-Some-clause-found g c = (asdu_of c.in-Some.field-0-0, c.in-Some.ensures.exact, λ _. c.in-Some.ensures.written)

use Rattle.pdu_core.specs.SampledViews.{asdu_of}
use Rattle.pdu_core.proofs.sampled.asdus.judge_any.Goals as goal

pub returns-clause-found : goal.returns-clause-found
returns-clause-found g c = (asdu_of c.in_ok-next.field-0-0, c.in_ok-next.ensures.exact, c.in_ok-next.ensures.written)

use Rattle.engine_core.proofs.EngineSteps.{alike_self}
use Rattle.frame_engines.specs.RewriteText.{rewrite_text}
use Rattle.frame_engines.proofs.engines.rewrite.rewrite_to_stop.Goals as goal

pub returns-clause-text : goal.returns-clause-text
returns-clause-text g c = c.run_to_stop.ensures.text rewrite_text (alike_self _)

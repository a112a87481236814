use Rattle.engine_core.proofs.EventSteps.{alike_in_style, alike_over}
use Rattle.engine_core.proofs.event_engine.OfEventsEngine.put_item.Goals as goal

pub returns-in-Ok-clause-same : goal.returns-in-Ok-clause-same
returns-in-Ok-clause-same g c = alike_over _ _ _ (alike_in_style (g.S.HasStyle.style c.args.self.now.style) _ _ c.put_in_style-put.ensures.same)

pub returns-in-Err-clause-same : goal.returns-in-Err-clause-same
returns-in-Err-clause-same g c = alike_over _ _ _ (alike_in_style (g.S.HasStyle.style c.args.self.now.style) _ _ c.put_in_style-put.ensures.same)

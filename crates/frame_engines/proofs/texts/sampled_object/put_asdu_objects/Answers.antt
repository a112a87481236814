use Rattle.frame_engines.specs.FrameObject.{asdu_object}
use Rattle.frame_engines.proofs.ObjectTexts.{joined-written}
use Rattle.frame_engines.proofs.texts.sampled_object.put_asdu_objects.Goals as goal

pub returns : goal.returns
returns g c = joined-written asdu_object c.put_other_asdu_objects.result _ _ _ _ _ _ c.in-Some.ensures.steps.0 c.in_ok-put_asdu_object.ensures c.put_other_asdu_objects.ensures

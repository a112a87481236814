use Rattle.text_core.proofs.Fronts.{rest_appended}
use Rattle.frame_engines.proofs.texts.sampled.put_asdu_texts.Goals as goal

pub returns : goal.returns
returns g c = rest_appended c.put_any_texts.result c.args.out.now.items c.put_usual_texts.new.out.items c.put_any_texts.new.out.items _ _ c.in_ok-others.ensures.kept c.put_any_texts.ensures c.in_ok-others.ensures.so_far

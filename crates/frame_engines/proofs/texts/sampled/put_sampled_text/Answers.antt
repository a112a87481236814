use Rattle.pdu_core.specs.SampledViews.{asdus_left}
use Rattle.frame_engines.specs.SampledText.{asdu_text}
use Rattle.frame_engines.proofs.SpacedAsdus.{in_brackets}
use Rattle.frame_engines.proofs.texts.sampled.put_sampled_text.Goals as goal

pub returns : goal.returns
returns g c =
    let sampled = c.args.sampled.now in
    in_brackets asdu_text c.put_bracket.result (asdus_left sampled.asdus) sampled.count _ _ _ _ sampled.counted c.in_ok-extend_from_slice.ensures.items c.in_ok-put_asdu_texts.ensures c.put_bracket.ensures.none c.put_bracket.ensures.some

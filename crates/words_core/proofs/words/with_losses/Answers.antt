use Rattle.words_core.proofs.words.with_losses.Goals as goal

pub returns : goal.returns
returns c a h =
    c.with_offering.ensures a _ h (c.with_arg-losses.ensures.app _ _ c.stream_period_option.ensures.rule c.named-losses.ensures.app)

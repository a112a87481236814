use Rattle.words_core.proofs.words.with_watch.Goals as goal

pub returns : goal.returns
returns c a h =
    c.with_offering.ensures a _ h
    (c.with_arg.ensures.app _ _ c.id_option.ensures.rule (c.with_arg-watch.ensures.app _ _ c.period_option.ensures.rule c.named-watch.ensures.app))

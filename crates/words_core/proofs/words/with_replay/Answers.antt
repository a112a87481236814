use Rattle.words_core.proofs.words.with_replay.Goals as goal

pub returns : goal.returns
returns c a h =
    let block = c.with_arg-replay.ensures.app _ _ c.block_words.ensures.rule c.named-replay.ensures.app in
    let changes = c.with_arg-replay-2.ensures.app _ _ c.flag_option.ensures.rule block in
    c.with_offering.ensures a _ h (c.with_arg-replay-3.ensures.app _ _ c.flag_option-2.ensures.rule changes)

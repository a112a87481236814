use Rattle.words_core.proofs.words.command.Goals as goal

pub returns : goal.returns
returns c =
    let readers = c.with_readers-program.ensures _ c.program.ensures in
    let publishes = c.with_plain-program.ensures _ (c.with_replay-program.ensures _ readers) in
    c.with_plain.ensures _ (c.with_losses-program.ensures _ (c.with_watch-program.ensures _ publishes))

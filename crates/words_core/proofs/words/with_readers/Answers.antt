use Rattle.words_core.proofs.words.with_readers.Goals as goal

pub returns : goal.returns
returns c a h = c.with_plain.ensures _ (c.with_plain-program-3.ensures _ (c.with_plain-program-2.ensures _ (c.with_plain-program.ensures a h)))

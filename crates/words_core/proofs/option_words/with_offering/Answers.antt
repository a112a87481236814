use Rattle.words_core.proofs.option_words.with_offering.Goals as goal

pub returns : goal.returns
returns c a b program command = c.with_command.ensures a _ program (c.with_options.ensures.app b command)

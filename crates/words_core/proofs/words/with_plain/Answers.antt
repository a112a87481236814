use Rattle.words_core.proofs.words.with_plain.Goals as goal

pub returns : goal.returns
returns c a h = c.with_offering.ensures a _ h c.named-plain.ensures.app

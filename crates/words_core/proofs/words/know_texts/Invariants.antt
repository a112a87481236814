use Rattle.std.proofs.Common.{take}
use Rattle.clap.specs.Walk.{texts}
use Rattle.words_core.specs.RequestLine.{AreTexts}
use Rattle.words_core.proofs.words.know_texts.Given as goal

-- the words gone through are texts
abbrev pub invariant-loop-word : goal.invariant-loop-word
invariant-loop-word l = AreTexts (texts (take l.word-index l.words))

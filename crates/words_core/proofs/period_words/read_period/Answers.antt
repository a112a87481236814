use Rattle.std.proofs.Common.{◌∙◌, Option, ap, subst, sym}
use Rattle.clap.specs.Words.{Text}
use Rattle.words_core.specs.CommandLine.{period_of_parts}
use Rattle.words_core.specs.computed.PrivateCalls.{AnswersPeriod}
use Rattle.words_core.proofs.Digits.{split_is, texts_of}
use Rattle.words_core.proofs.period_words.read_period.Goals as goal

pub returns-in-None : goal.returns-in-None
returns-in-None c =
    subst (λ (o : Option (Text × Text)). AnswersPeriod (period_of_parts c.args.text.now o) c.of_all.result)
    (sym (ap texts_of c.in-None.is) ∙ split_is c.args.text.now c.rsplit_once.result c.rsplit_once.ensures.cases) c.of_all.ensures

pub returns-in-Some : goal.returns-in-Some
returns-in-Some c =
    subst (λ (o : Option (Text × Text)). AnswersPeriod (period_of_parts c.args.text.now o) c.of_id.result)
    (sym (ap texts_of c.in-Some.is) ∙ split_is c.args.text.now c.rsplit_once.result c.rsplit_once.ensures.cases) c.of_id.ensures

-- What private calls promise of the words of a command line.
use Rattle.std.specs.Prelude.{◌≡◌, Option, Some, None, Result, Ok, Err}
use Rattle.loss_core.specs.Periods.{Period}
use Rattle.words_core.specs.declared.period_words.PeriodError.{PeriodError}
use Rattle.words_core.specs.declared.period_words.PeriodError.TheVariants as no_period
use Rattle.words_core.specs.declared.words.Task.{Task}
use Rattle.words_core.specs.declared.words.WordsError.{WordsError}
use Rattle.words_core.specs.CommandLine.{AnswersTask, AnswersUnsaid, Meaning}

-- what is asked for is answered, refused memory aside
abbrev pub AnswersWords : Meaning → Result Task WordsError → Type 0
AnswersWords (Ok asked) answer = AnswersTask asked answer
AnswersWords (Err unsaid) answer = AnswersUnsaid unsaid answer

-- the same, where something is asked for
abbrev pub MayAnswer : Option Meaning → Option (Result Task WordsError) → Type 0
MayAnswer None None = Unit {0}
MayAnswer (Some meaning) (Some answer) = AnswersWords meaning answer
MayAnswer _ _ = ⊥

-- the answer is the period that a text says, or that it says none, refused memory aside
abbrev pub AnswersPeriod : Option Period → Result Period PeriodError → Type 0
AnswersPeriod said (Ok p) = said ≡ Some p
AnswersPeriod said (Err no_period.PeriodForm) = said ≡ None
AnswersPeriod said (Err no_period.Memory) = Unit {0}

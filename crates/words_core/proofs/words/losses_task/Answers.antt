use Rattle.std.proofs.Common.{◌≡◌, refl, sym, subst, rules, true, Ok, Err}
use Rattle.std.specs.Result.{is_ok}
use Rattle.words_core.specs.CommandLine.{Meaning, losses, no_period, period_at}
use Rattle.words_core.specs.computed.PrivateCalls.{AnswersWords}
use Rattle.words_core.proofs.Digits.{end_meant, none_meant, said_more}
use Rattle.words_core.specs.declared.words.Task.TheVariants.{Losses}
use Rattle.words_core.specs.declared.words.WordsError.TheVariants as refused
use Rattle.words_core.proofs.words.losses_task.Goals as goal

pub loop-position-preserved : goal.loop-position-preserved
loop-position-preserved c =
    let pushed : is_ok c.push.result ≡ true = search rules in
    rw (c.push.ensures.items, pushed) (said_more period_at c.args.words.now c.loop-position.position _ _ c.in-Ok.period c.loop-position-test.true c.loop-position.invariant c.in-Ok.ensures)

pub returns-in-Err-PeriodForm : goal.returns-in-Err-PeriodForm
returns-in-Err-PeriodForm c =
    subst (λ (m : Meaning). AnswersWords m (Err (refused.Period c.loop-position.position)))
    (sym (none_meant period_at no_period losses c.args.words.now c.loop-position.position _ c.loop-position.periods.items c.loop-position-test.true c.loop-position.invariant (rw c.in-Err-PeriodForm.field-0-is at c.in-Err-PeriodForm.ensures)))
    refl

pub returns : goal.returns
returns c =
    subst (λ (m : Meaning). AnswersWords m (Ok (Losses c.loop-position.periods)))
    (sym (end_meant period_at no_period losses c.args.words.now c.loop-position.position c.loop-position.periods.items c.loop-position-test.false c.loop-position.invariant)) refl

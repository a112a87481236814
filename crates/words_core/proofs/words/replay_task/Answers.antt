use Rattle.std.proofs.Common.{◌≡◌, refl, sym, subst, rules, true, Ok, Err}
use Rattle.std.specs.Result.{is_ok}
use Rattle.words_core.specs.CommandLine.{Meaning, block_at, no_block, replay}
use Rattle.words_core.specs.computed.PrivateCalls.{AnswersWords}
use Rattle.words_core.proofs.Digits.{end_meant, none_meant, said_more}
use Rattle.words_core.specs.declared.words.Task.TheVariants.{Replay}
use Rattle.words_core.specs.declared.words.WordsError.TheVariants as refused
use Rattle.words_core.proofs.words.replay_task.Goals as goal

pub loop-position-preserved : goal.loop-position-preserved
loop-position-preserved c =
    let pushed : is_ok c.push.result ≡ true = search rules in
    rw (c.push.ensures.items, pushed) (said_more block_at c.args.words.now c.loop-position.position _ _ c.in-Ok.block c.loop-position-test.true c.loop-position.invariant c.in-Ok.ensures)

pub returns-in-Err-BlockForm : goal.returns-in-Err-BlockForm
returns-in-Err-BlockForm c =
    subst (λ (m : Meaning). AnswersWords m (Err (refused.Block c.loop-position.position)))
    (sym (none_meant block_at no_block replay c.args.words.now c.loop-position.position _ c.loop-position.blocks.items c.loop-position-test.true c.loop-position.invariant (rw c.in-Err-BlockForm.field-0-is at c.in-Err-BlockForm.ensures)))
    refl

pub returns : goal.returns
returns c =
    subst (λ (m : Meaning). AnswersWords m (Ok (Replay c.loop-position.blocks)))
    (sym (end_meant block_at no_block replay c.args.words.now c.loop-position.position c.loop-position.blocks.items c.loop-position-test.false c.loop-position.invariant)) refl

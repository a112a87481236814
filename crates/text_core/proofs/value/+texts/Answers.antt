use Rattle.text_core.specs.ValueText.{value_text}
use Rattle.text_core.proofs.Spaced.{between-written}
use Rattle.text_core.proofs.value.+texts.Goals as goal

pub put_between-returns : goal.put_between-returns
put_between-returns g t c =
    between-written value_text c.args.before c.args.after _ _ _ _ _ _ _ c.in-Some.ensures.steps.0 c.in_ok-put_member_text.ensures c.in_ok-put_others.ensures c.in_ok-push.ensures.items

use Rattle.text_core.proofs.Afters.{stripped}
use Rattle.text_core.proofs.following.after.Goals as goal

pub returns : goal.returns
returns c = stripped c.args.text.now c.args.front.now c.strip_prefix.result c.strip_prefix.ensures.cases

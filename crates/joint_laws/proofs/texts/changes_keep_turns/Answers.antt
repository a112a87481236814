use Rattle.joint_laws.proofs.text_lemmas.ChangesTold.{changes_keep_turns}
use Rattle.joint_laws.proofs.texts.changes_keep_turns.Goals as goal

pub returns : goal.returns
returns g c = changes_keep_turns

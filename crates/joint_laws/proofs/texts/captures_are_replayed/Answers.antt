use Rattle.joint_laws.proofs.text_lemmas.ReplayLines.{captures_are_replayed}
use Rattle.joint_laws.proofs.texts.captures_are_replayed.Goals as goal

pub returns : goal.returns
returns g c = captures_are_replayed

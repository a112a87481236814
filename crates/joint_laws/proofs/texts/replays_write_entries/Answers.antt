use Rattle.joint_laws.proofs.text_lemmas.ReplayLines.{replays_write_entries}
use Rattle.joint_laws.proofs.texts.replays_write_entries.Goals as goal

pub returns : goal.returns
returns g c = replays_write_entries

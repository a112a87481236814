use Rattle.joint_laws.proofs.text_lemmas.PublishedScripts.{written_lists_replay}
use Rattle.joint_laws.proofs.texts.written_lists_replay.Goals as goal

pub returns : goal.returns
returns g c = written_lists_replay

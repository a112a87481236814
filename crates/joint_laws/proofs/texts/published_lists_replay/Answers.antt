use Rattle.joint_laws.proofs.text_lemmas.PublishedScripts.{published_lists_replay}
use Rattle.joint_laws.proofs.texts.published_lists_replay.Goals as goal

pub returns : goal.returns
returns g c = published_lists_replay

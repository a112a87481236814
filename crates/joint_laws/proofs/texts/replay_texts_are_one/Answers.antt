use Rattle.joint_laws.proofs.text_lemmas.OneText.{replay_texts_are_one}
use Rattle.joint_laws.proofs.texts.replay_texts_are_one.Goals as goal

pub returns : goal.returns
returns g c = replay_texts_are_one

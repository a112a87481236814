use Rattle.joint_laws.proofs.text_lemmas.OneText.{publish_texts_are_one}
use Rattle.joint_laws.proofs.texts.publish_texts_are_one.Goals as goal

pub returns : goal.returns
returns g c = publish_texts_are_one

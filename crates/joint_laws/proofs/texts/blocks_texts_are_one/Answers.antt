use Rattle.joint_laws.proofs.text_lemmas.OneText.{blocks_texts_are_one}
use Rattle.joint_laws.proofs.texts.blocks_texts_are_one.Goals as goal

pub returns : goal.returns
returns g c = blocks_texts_are_one

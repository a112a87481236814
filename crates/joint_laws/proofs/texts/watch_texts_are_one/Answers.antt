use Rattle.joint_laws.proofs.text_lemmas.OneText.{watch_texts_are_one}
use Rattle.joint_laws.proofs.texts.watch_texts_are_one.Goals as goal

pub returns : goal.returns
returns g c = watch_texts_are_one

use Rattle.joint_laws.proofs.text_lemmas.PlainTexts.{plain_text, plain_found, plain_stop}
use Rattle.joint_laws.proofs.texts.plain_texts_follow_one_another.Goals as goal

pub returns : goal.returns
returns g c = record { text = plain_text; found = plain_found; stop = plain_stop }

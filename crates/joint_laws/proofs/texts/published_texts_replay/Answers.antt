use Rattle.joint_laws.proofs.text_lemmas.PublishedScripts.{scripts_give_lists, published_texts_replay}
use Rattle.joint_laws.proofs.text_lemmas.ScriptSizes.{scripts_say_runs}
use Rattle.joint_laws.proofs.texts.published_texts_replay.Goals as goal

pub returns : goal.returns
returns g c = record { run = scripts_say_runs; list = scripts_give_lists _; replay = published_texts_replay }

use Rattle.joint_laws.proofs.text_lemmas.ScriptSizes.{scripts_in_order}
use Rattle.joint_laws.proofs.texts.scripts_are_in_order.Goals as goal

pub returns : goal.returns
returns g c = scripts_in_order

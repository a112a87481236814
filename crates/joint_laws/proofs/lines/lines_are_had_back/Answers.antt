use Rattle.joint_laws.proofs.line_lemmas.AllSaid.{lines_had_back}
use Rattle.joint_laws.proofs.lines.lines_are_had_back.Goals as goal

pub returns : goal.returns
returns g c = lines_had_back

use Rattle.publish_core.proofs.GivesOne.{carried}
use Rattle.publish_core.proofs.laws.frames_carry_their_change.Goals as goal

pub returns : goal.returns
returns c = λ table calls i c k change g. carried g

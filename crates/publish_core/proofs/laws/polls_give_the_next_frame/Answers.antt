use Rattle.publish_core.proofs.Runs.{polls_give}
use Rattle.publish_core.proofs.laws.polls_give_the_next_frame.Goals as goal

pub returns : goal.returns
returns c = polls_give

use Rattle.joint_laws.proofs.exchange_lemmas.OneFrame.{whole_runs_replay}
use Rattle.joint_laws.proofs.exchange.whole_runs_replay.Goals as goal

pub returns : goal.returns
returns g c = whole_runs_replay

use Rattle.subscribe_core.proofs.Counts.{answers_are_one}
use Rattle.subscribe_core.proofs.laws.counts_are_seen_once.Goals as goal

pub returns : goal.returns
returns c = answers_are_one

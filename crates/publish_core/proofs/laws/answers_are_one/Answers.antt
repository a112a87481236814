use Rattle.publish_core.proofs.Runs as runs
use Rattle.publish_core.proofs.laws.answers_are_one.Goals as goal

pub returns : goal.returns
returns g c = record { there = runs.answers_are_there; one = runs.answers_are_one; stay = runs.answers_stay }

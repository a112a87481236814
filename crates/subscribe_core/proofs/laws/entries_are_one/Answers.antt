use Rattle.subscribe_core.proofs.Runs.{entries_are_one, entries_exist, entries_stay}
use Rattle.subscribe_core.proofs.laws.entries_are_one.Goals as goal

pub returns-clause-exist : goal.returns-clause-exist
returns-clause-exist g c = entries_exist

pub returns-clause-one : goal.returns-clause-one
returns-clause-one g c = entries_are_one

pub returns-clause-stay : goal.returns-clause-stay
returns-clause-stay g c = entries_stay

use Rattle.list_core.proofs.Stops.{finished-ended, read_failed-failed}
use Rattle.list_core.proofs.laws.stops_tell_the_ending.Goals as goal

pub returns-clause-finished : goal.returns-clause-finished
returns-clause-finished g c = finished-ended

pub returns-clause-read_failed : goal.returns-clause-read_failed
returns-clause-read_failed g c = read_failed-failed

use Rattle.std.proofs.Common.{ap}
use Rattle.known_core.specs.computed.Held.{in_runs}
use Rattle.known_core.proofs.RunLemmas.{none_are}
use Rattle.known_core.proofs.runs.Runs.new.Goals as goal

pub returns-clause-none : goal.returns-clause-none
returns-clause-none g c = ap in_runs c.new.ensures.items

pub returns-clause-compact : goal.returns-clause-compact
returns-clause-compact g c = none_are c.new.result.items c.new.ensures.items

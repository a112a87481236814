use Rattle.std.proofs.Common.{sym}
use Rattle.known_core.proofs.RunLemmas.{one_at}
use Rattle.known_core.proofs.runs.Runs.get.Goals as goal

pub returns : goal.returns
returns g c = λ d.
    let place = c.args.place in
    let run = c.index.result.now in
    sym (one_at c.args.self.now.runs.items place.run run c.requires.in_runs c.index.ensures place.at c.index-2.result.now (c.requires.in_run run) c.index-2.ensures d)

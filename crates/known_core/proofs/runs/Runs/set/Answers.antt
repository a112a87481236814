use Rattle.std.proofs.Common.{refl}
use Rattle.std.specs.Vec.{with_item}
use Rattle.known_core.proofs.RunLemmas.{one_written}
use Rattle.known_core.proofs.runs.Runs.set.Goals as goal

pub returns : goal.returns
returns g c =
    let place = c.args.place in
    let run = c.index_mut.result.now in
    let w = one_written c.args.self.now.runs.items place.run run c.requires.in_runs c.index_mut.ensures.value place.at (with_item run place.at c.args.one) c.args.one (c.requires.in_run run) refl refl in
    record { written = w.0; runs = w.1 }

use Rattle.std.proofs.Common.{◌<◌, length, arith, refl}
use Rattle.std.specs.declared.cmp.Ordering.TheVariants.{Equal}
use Rattle.known_core.specs.computed.Held.{in_run}
use Rattle.known_core.proofs.SearchLemmas.{found_at}
use Rattle.known_core.proofs.runs.Runs.get_if.Goals as goal

pub returns-then-place-len-2-clause-within : goal.returns-then-place-len-2-clause-within
returns-then-place-len-2-clause-within g c =
    let runs = c.args.self.now.runs.items in
    let run = c.index.result.now in
    let lt : c.args.place.run < length runs = omega arith in
    let few : c.args.place.at < length (in_run run) = omega arith in
    (found_at (λ (one : g.row.E.Denot). Equal) runs c.args.place.run run lt c.index.ensures c.args.place.at (record { within = few; is = λ d. refl })).within

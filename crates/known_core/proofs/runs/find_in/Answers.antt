use Rattle.std.proofs.Common.{rules}
use Rattle.std.proofs.lemmas.Fn.{always_returns_same}
use Rattle.known_core.proofs.SearchLemmas.{searched}
use Rattle.known_core.proofs.runs.find_in.Goals as goal

pub returns : goal.returns
returns g c =
    let by = g.P.Probe.cmp c.args.probe.now in
    searched by c.args.run.now c.binary_search_by.result c.binary_search_by.ensures.bound (c.binary_search_by.ensures.position by (always_returns_same _ _ _ (λ a r f k. search rules)))

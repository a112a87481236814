use Rattle.std.proofs.Common.{ℕ, ap, ◌∙◌}
use Rattle.known_core.specs.computed.Positions.{stands_at}
use Rattle.known_core.proofs.PositionLemmas.{found_entry}
use Rattle.known_core.proofs.positions.find_position.Goals as goal

pub returns-in-Ok : goal.returns-in-Ok
returns-in-Ok g c =
    let by = g.P.Probe.cmp c.args.probe.now in
    let entries = c.args.entries.now in
    let p = c.get.result.now in
    found_entry by entries p (ap (λ (q : ℕ). stands_at by entries q) (c.get.ensures p) ∙ c.in-Ok.ensures.1.is p)

use Rattle.std.proofs.Common.{ap, arith}
use Rattle.subscribe_core.specs.computed.PrivateCalls.{StateAndReaches}
use Rattle.subscribe_core.proofs.keeping.Keeper.step.Goals as goal

pub returns-clause-looks : goal.returns-clause-looks
returns-clause-looks g c =
    let first = ap (λ (t : StateAndReaches _). t.reaches) c.self.view_is in
    let last = ap (λ (t : StateAndReaches _). t.reaches) c.self-2.view_is in
    omega (arith, c.in_ok-take_counted.ensures.count, first, last, c.reaches-before.ensures, c.reaches.ensures, c.saturating_sub-self-inside.ensures)

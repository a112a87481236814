use Rattle.std.proofs.Common.{ap}
use Rattle.subscribe_core.specs.computed.PrivateCalls.{StateAndReaches}
use Rattle.subscribe_core.proofs.keeping.Keeper.reach.Goals as goal

pub invariant_of-self : goal.invariant_of-self
invariant_of-self g c = rw (c.reach.ensures.blocks, c.reach.ensures.registers) c.self.invariant

pub returns-clause-state : goal.returns-clause-state
returns-clause-state g c = rw (c.reach.ensures.blocks, c.reach.ensures.registers) (ap (λ (s : StateAndReaches _). s.state) c.self.view_is)

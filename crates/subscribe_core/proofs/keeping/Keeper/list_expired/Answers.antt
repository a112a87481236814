use Rattle.std.proofs.Common.{subst}
use Rattle.subscribe_core.specs.computed.Deadlines.{KeepsDeadlinesOf, helds}
use Rattle.subscribe_core.specs.computed.PrivateCalls.{StateAndReaches}
use Rattle.subscribe_core.proofs.keeping.Keeper.list_expired.Goals as goal

pub list_due-requires : goal.list_due-requires
list_due-requires g c = record { tree = c.self.invariant.timed.tree }

pub returns-clause-entries : goal.returns-clause-entries
returns-clause-entries g c =
    let agree = subst (λ (s : StateAndReaches _). KeepsDeadlinesOf c.self.inside.deadlines (helds s.state.registers)) c.self.view_is c.self.invariant.timed in
    c.list_due.ensures.entries c.args.self.now.state.registers agree

pub returns-clause-quiet : goal.returns-clause-quiet
returns-clause-quiet g c = λ none.
    let agree = subst (λ (s : StateAndReaches _). KeepsDeadlinesOf c.self.inside.deadlines (helds s.state.registers)) c.self.view_is c.self.invariant.timed in
    c.list_due.ensures.quiet c.args.self.now.state.registers agree none

use Rattle.std.proofs.Common.{subst}
use Rattle.subscribe_core.specs.computed.Flagged.{AreFlagged}
use Rattle.subscribe_core.specs.computed.PrivateCalls.{StateAndReaches}
use Rattle.subscribe_core.proofs.keeping.Keeper.list_switched.Goals as goal

pub returns-clause-entries : goal.returns-clause-entries
returns-clause-entries g c =
    let agree = subst (λ (s : StateAndReaches _). AreFlagged c.self.inside.flagged.positions.items s.state.registers) c.self.view_is c.self.invariant.flagged in
    c.list.ensures.entries c.args.self.now.state.registers agree

pub returns-clause-quiet : goal.returns-clause-quiet
returns-clause-quiet g c = λ none.
    let agree = subst (λ (s : StateAndReaches _). AreFlagged c.self.inside.flagged.positions.items s.state.registers) c.self.view_is c.self.invariant.flagged in
    c.list.ensures.quiet c.args.self.now.state.registers agree none

pub invariant_of-self : goal.invariant_of-self
invariant_of-self g c =
    record {
      sizes = c.self.invariant.sizes;
      apart = c.self.invariant.apart;
      sorted = c.self.invariant.sorted;
      named = c.self.invariant.named;
      timed = c.self.invariant.timed;
      flagged = c.list.ensures.flagged _ c.self.invariant.flagged;
    }

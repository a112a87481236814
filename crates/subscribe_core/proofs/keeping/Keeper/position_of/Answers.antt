use Rattle.std.proofs.Common.{ap, ◌∙◌, subst, position}
use Rattle.subscribe_core.specs.Matching.{is_of}
use Rattle.subscribe_core.specs.computed.Received.{received_frame}
use Rattle.subscribe_core.specs.Apart.{AreApart}
use Rattle.subscribe_core.specs.computed.PrivateCalls.{StateAndReaches}
use Rattle.subscribe_core.proofs.NameLemmas.{position_is}
use Rattle.subscribe_core.proofs.keeping.Keeper.position_of.Goals as goal

pub returns-clause-found : goal.returns-clause-found
returns-clause-found g c =
    let found = position_is c.self.inside.names.items c.self.inside.rows.blocks.items (received_frame c.args.frame.now) c.position_named.result c.self.invariant.named c.self.invariant.apart
    (rw c.deref.ensures.value at c.position_named.ensures) in
    found ∙ ap (λ (s : StateAndReaches _). position (is_of (received_frame c.args.frame.now)) s.state.blocks) c.self.view_is

pub returns-clause-apart : goal.returns-clause-apart
returns-clause-apart g c = subst (λ (s : StateAndReaches _). AreApart s.state.blocks) c.self.view_is c.self.invariant.apart

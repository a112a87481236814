use Rattle.std.proofs.Common.{◌<◌, Some, ap, sym, subst, arith, refl, length, set, slice_get, ◌∙◌}
use Rattle.std.proofs.lemmas.List.{length-map}
use Rattle.subscribe_core.specs.declared.registers.Register.{Register}
use Rattle.subscribe_core.specs.computed.Deadlines.{helds}
use Rattle.subscribe_core.specs.computed.PrivateCalls.{StateAndReaches}
use Rattle.subscribe_core.proofs.Clearing.{indexed_write, register_of}
use Rattle.subscribe_core.proofs.Flagging.{flagged_kept}
use Rattle.subscribe_core.proofs.keeping.Keeper.hold.Goals as goal

pub hold-requires : goal.hold-requires
hold-requires g c =
    record { within = subst (λ (s : StateAndReaches _). c.args.at < length s.state.registers) (sym c.self.view_is) c.requires.within }

pub invariant_of-self : goal.invariant_of-self
invariant_of-self g c =
    let registers = c.self.inside.rows.registers.items in
    let lt = subst (λ (s : StateAndReaches _). c.args.at < length s.state.registers) (sym c.self.view_is) c.requires.within in
    let size = length-map registers (λ (r : Register). r.held) in
    let old = register_of registers c.args.at lt in
    let new : Register = record { held = Some c.args.held; takes_simulated = old.0.takes_simulated } in
    indexed_write _ _ registers _ _ c.args.at new _ _ _ _ (ap (λ b. b.items) c.hold.ensures.blocks) (c.hold.ensures.registers old.0 old.1) c.self.invariant
    (c.renew.ensures (helds registers) c.args.held (omega arith) refl c.self.invariant.timed) (flagged_kept _ registers c.args.at old.0 new old.1 refl c.self.invariant.flagged)

pub returns-clause-registers : goal.returns-clause-registers
returns-clause-registers g c = λ r here.
    c.hold.ensures.registers r (ap (λ (s : StateAndReaches _). slice_get s.state.registers c.args.at) c.self.view_is ∙ here)
    ∙ ap (λ (s : StateAndReaches _). set s.state.registers c.args.at (record { held = Some c.args.held; takes_simulated = r.takes_simulated })) c.self.view_is

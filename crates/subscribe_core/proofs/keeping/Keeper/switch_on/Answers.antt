use Rattle.std.proofs.Common.{Some, true, ap, arith, refl, set, slice_get, ◌∙◌}
use Rattle.std.proofs.lemmas.List.{length-map}
use Rattle.std.proofs.lemmas.Option.{slice_get_within}
use Rattle.subscribe_core.specs.declared.registers.Register.{Register}
use Rattle.subscribe_core.specs.computed.Deadlines.{helds}
use Rattle.subscribe_core.specs.computed.PrivateCalls.{StateAndReaches}
use Rattle.subscribe_core.proofs.Clearing.{indexed_write}
use Rattle.subscribe_core.proofs.keeping.Keeper.switch_on.Goals as goal

pub write-requires : goal.write-requires
write-requires g c =
    let registers = c.self.inside.rows.registers.items in
    let here = ap (λ (s : StateAndReaches _). slice_get s.state.registers c.args.at) c.self.view_is ∙ c.requires.real.1 in
    record { within = slice_get_within registers c.args.at c.requires.real.0 here }

pub invariant_of-self : goal.invariant_of-self
invariant_of-self g c = rw c.in_err-add.ensures.err c.self.invariant

pub invariant_of-self-2 : goal.invariant_of-self-2
invariant_of-self-2 g c =
    let registers = c.self.inside.rows.registers.items in
    let old = c.requires.real.0 in
    let here = ap (λ (s : StateAndReaches _). slice_get s.state.registers c.args.at) c.self.view_is ∙ c.requires.real.1 in
    let lt = slice_get_within registers c.args.at old here in
    let size = length-map registers (λ (r : Register). r.held) in
    let new : Register = record { held = Some c.args.held; takes_simulated = true } in
    indexed_write _ _ registers _ _ c.args.at new _ _ _ _ (ap (λ b. b.items) c.write.ensures.blocks) c.write.ensures.registers c.self.invariant
    (c.renew.ensures (helds registers) c.args.held (omega arith) refl c.self.invariant.timed)
    (c.in_ok-add.ensures.added registers old new here c.requires.real.2 refl c.self.invariant.flagged)

pub returns-clause-registers : goal.returns-clause-registers
returns-clause-registers g c = c.write.ensures.registers ∙ ap (λ (s : StateAndReaches _). set s.state.registers c.args.at (record { held = Some c.args.held; takes_simulated = true })) c.self.view_is

use Rattle.std.proofs.Common.{◌≡◌, ℕ, ◌≤◌, ◌||◌, ◌++◌, Bool, true, Some, None, List, ap, ap₂, sym, ◌∙◌, arith, subst, set, slice_get}
use Rattle.subscribe_core.specs.declared.entry.Entry.{Entry}
use Rattle.subscribe_core.specs.declared.registers.Register.{Register}
use Rattle.subscribe_core.specs.computed.Deadlines.{due_count, helds}
use Rattle.subscribe_core.specs.computed.Indexed.{registers_after_clock}
use Rattle.subscribe_core.specs.computed.PrivateCalls.{StateAndReaches}
use Rattle.subscribe_core.specs.computed.Received.{received_frame}
use Rattle.subscribe_core.specs.State.{State}
use Rattle.std.proofs.lemmas.Bool.{false≢true}
use Rattle.subscribe_core.specs.Changes.{changes}
use Rattle.subscribe_core.proofs.Changing.{no_switch}
use Rattle.subscribe_core.proofs.Frames.{answer_good, answer_none, answer_refused, new_ahead, new_lives, reason_told, registers_good, registers_kept, registers_refused, written_fewer, written_new, written_none}
use Rattle.subscribe_core.proofs.Flagging.{flag_left, flag_set}
use Rattle.subscribe_core.proofs.keeping.Keeper.take_goose.Goals as goal

pub returns-in_default-clause-entries : goal.returns-in_default-clause-entries
returns-in_default-clause-entries g c =
    let s = c.args.self.now.state in
    subst (λ (es : List (Entry g.row.A.Denot)). g.E.EntrySink.gets c.args.entries.now es c.put_entry.new.self) (answer_none c.args.now s.mode s.blocks s.registers (received_frame c.args.frame.now) (sym c.in_default.ensures.found)) c.in_ok-put_entry.ensures.got

pub returns-in_default-clause-registers : goal.returns-in_default-clause-registers
returns-in_default-clause-registers g c =
    let s = c.args.self.now.state in
    ap (λ (t : StateAndReaches _). registers_after_clock c.args.now t.state.registers) c.position_of.ensures.unchanged
    ∙ registers_kept c.args.now s.mode s.blocks s.registers (received_frame c.args.frame.now) c.position_of.ensures.sizes (sym c.in_default.ensures.found)

pub returns-in-Some-first_reason-clause-entries : goal.returns-in-Some-first_reason-clause-entries
returns-in-Some-first_reason-clause-entries g c =
    let s = c.args.self.now.state in
    let f = received_frame c.args.frame.now in
    let x = c.look.result.0.now in
    let r = c.look.result.1 in
    let block = sym (ap₂ (λ (t : State _) (n : ℕ). slice_get t.blocks n) (c.reach-reach.ensures.state ∙ ap (λ (t : StateAndReaches _). t.state) c.position_of.ensures.unchanged) c.reach-reach.ensures.at) ∙ c.look.ensures.block in
    let register_is = sym (ap₂ (λ (t : State _) (n : ℕ). slice_get t.registers n) (c.reach-reach.ensures.state ∙ ap (λ (t : StateAndReaches _). t.state) c.position_of.ensures.unchanged) c.reach-reach.ensures.at) ∙ c.look.ensures.register in
    let told = reason_told x f c.is_other_kind-is_other_kind.result s.mode c.is_simulating-mode.result r.takes_simulated (Some c.in-Some-first_reason.reason) c.is_other_kind-is_other_kind.ensures (c.is_simulating-mode.ensures ∙ ap (λ (t : StateAndReaches _). t.state.mode) c.position_of.ensures.unchanged) c.in-Some-first_reason.ensures in
    subst (λ (es : List (Entry g.row.A.Denot)). g.E.EntrySink.gets c.args.entries.now es c.put_entry-in-Some-first_reason.new.self)
    (answer_refused c.args.now s.mode s.blocks s.registers f c.in-Some.at x r c.in-Some-first_reason.reason c.position_of.ensures.apart (sym c.in-Some.ensures.found) block register_is told) c.in_ok-put_entry-2.ensures.got

pub returns-in-Some-first_reason-clause-registers : goal.returns-in-Some-first_reason-clause-registers
returns-in-Some-first_reason-clause-registers g c =
    let s = c.args.self.now.state in
    let f = received_frame c.args.frame.now in
    let x = c.look.result.0.now in
    let r = c.look.result.1 in
    let block = sym (ap₂ (λ (t : State _) (n : ℕ). slice_get t.blocks n) (c.reach-reach.ensures.state ∙ ap (λ (t : StateAndReaches _). t.state) c.position_of.ensures.unchanged) c.reach-reach.ensures.at) ∙ c.look.ensures.block in
    let register_is = sym (ap₂ (λ (t : State _) (n : ℕ). slice_get t.registers n) (c.reach-reach.ensures.state ∙ ap (λ (t : StateAndReaches _). t.state) c.position_of.ensures.unchanged) c.reach-reach.ensures.at) ∙ c.look.ensures.register in
    let told = reason_told x f c.is_other_kind-is_other_kind.result s.mode c.is_simulating-mode.result r.takes_simulated (Some c.in-Some-first_reason.reason) c.is_other_kind-is_other_kind.ensures (c.is_simulating-mode.ensures ∙ ap (λ (t : StateAndReaches _). t.state.mode) c.position_of.ensures.unchanged) c.in-Some-first_reason.ensures in
    ap (λ (t : State _). registers_after_clock c.args.now t.registers) (c.reach-reach.ensures.state ∙ ap (λ (t : StateAndReaches _). t.state) c.position_of.ensures.unchanged)
    ∙ registers_refused c.args.now s.mode s.blocks s.registers f c.in-Some.at x r c.in-Some-first_reason.reason c.position_of.ensures.sizes c.position_of.ensures.apart (sym c.in-Some.ensures.found) block register_is told

pub returns-in-None-clause-entries : goal.returns-in-None-clause-entries
returns-in-None-clause-entries g c =
    let s = c.args.self.now.state in
    let f = received_frame c.args.frame.now in
    let x = c.look.result.0.now in
    let r = c.look.result.1 in
    let block = sym (ap₂ (λ (t : State _) (n : ℕ). slice_get t.blocks n) (c.reach-reach.ensures.state ∙ ap (λ (t : StateAndReaches _). t.state) c.position_of.ensures.unchanged) c.reach-reach.ensures.at) ∙ c.look.ensures.block in
    let register_is = sym (ap₂ (λ (t : State _) (n : ℕ). slice_get t.registers n) (c.reach-reach.ensures.state ∙ ap (λ (t : StateAndReaches _). t.state) c.position_of.ensures.unchanged) c.reach-reach.ensures.at) ∙ c.look.ensures.register in
    let told = reason_told x f c.is_other_kind-is_other_kind.result s.mode c.is_simulating-mode.result r.takes_simulated None c.is_other_kind-is_other_kind.ensures (c.is_simulating-mode.ensures ∙ ap (λ (t : StateAndReaches _). t.state.mode) c.position_of.ensures.unchanged) c.in_default-first_reason.ensures in
    subst (λ (es : List (Entry g.row.A.Denot)). g.E.EntrySink.gets c.args.entries.now es c.put_good.new.entries)
    (answer_good c.args.now s.mode s.blocks s.registers f c.in-Some.at x r c.position_of.ensures.apart (sym c.in-Some.ensures.found) block register_is told) c.in_ok-put_good.ensures.entries

pub returns-in-None-clause-registers : goal.returns-in-None-clause-registers
returns-in-None-clause-registers g c =
    let s = c.args.self.now.state in
    let f = received_frame c.args.frame.now in
    let x = c.look.result.0.now in
    let r = c.look.result.1 in
    let block = sym (ap₂ (λ (t : State _) (n : ℕ). slice_get t.blocks n) (c.reach-reach.ensures.state ∙ ap (λ (t : StateAndReaches _). t.state) c.position_of.ensures.unchanged) c.reach-reach.ensures.at) ∙ c.look.ensures.block in
    let register_is = sym (ap₂ (λ (t : State _) (n : ℕ). slice_get t.registers n) (c.reach-reach.ensures.state ∙ ap (λ (t : StateAndReaches _). t.state) c.position_of.ensures.unchanged) c.reach-reach.ensures.at) ∙ c.look.ensures.register in
    let told = reason_told x f c.is_other_kind-is_other_kind.result s.mode c.is_simulating-mode.result r.takes_simulated None c.is_other_kind-is_other_kind.ensures (c.is_simulating-mode.ensures ∙ ap (λ (t : StateAndReaches _). t.state.mode) c.position_of.ensures.unchanged) c.in_default-first_reason.ensures in
    let renewal = sym c.in_ok-put_good.ensures.held ∙ c.in-None.is in
    ap (λ (t : State _). registers_after_clock c.args.now t.registers) (c.reach-reach.ensures.state ∙ ap (λ (t : StateAndReaches _). t.state) c.position_of.ensures.unchanged)
    ∙ (written_none c.args.now s.registers c.in-Some.at r f register_is renewal
    ∙ registers_good c.args.now s.mode s.blocks s.registers f c.in-Some.at x r c.position_of.ensures.sizes c.position_of.ensures.apart (sym c.in-Some.ensures.found) block register_is told)

pub switch_on-requires-clause-real : goal.switch_on-requires-clause-real
switch_on-requires-clause-real g c =
    let s = c.args.self.now.state in
    let f = received_frame c.args.frame.now in
    let x = c.look.result.0.now in
    let r = c.look.result.1 in
    let register_is = sym (ap₂ (λ (t : State _) (n : ℕ). slice_get t.registers n) (c.reach-reach.ensures.state ∙ ap (λ (t : StateAndReaches _). t.state) c.position_of.ensures.unchanged) c.reach-reach.ensures.at) ∙ c.look.ensures.register in
    let here = ap (λ (t : State _). slice_get t.registers c.in-Some.at) (c.reach-reach.ensures.state ∙ ap (λ (t : StateAndReaches _). t.state) c.position_of.ensures.unchanged) ∙ register_is in
    (r, here, (flag_set r f (sym c.is_switching.ensures ∙ c.if-is_switching.true)).0)

pub switch_on-requires-clause-live : goal.switch_on-requires-clause-live
switch_on-requires-clause-live g c =
    let s = c.args.self.now.state in
    let f = received_frame c.args.frame.now in
    let x = c.look.result.0.now in
    let r = c.look.result.1 in
    let told = reason_told x f c.is_other_kind-is_other_kind.result s.mode c.is_simulating-mode.result r.takes_simulated None c.is_other_kind-is_other_kind.ensures (c.is_simulating-mode.ensures ∙ ap (λ (t : StateAndReaches _). t.state.mode) c.position_of.ensures.unchanged) c.in_default-first_reason.ensures in
    let renewal = sym c.in_ok-put_good.ensures.held ∙ c.in-Some-2.is in
    new_ahead c.args.now x r f _ c.in-Some-2.held told renewal

pub returns-then-is_switching-clause-entries : goal.returns-then-is_switching-clause-entries
returns-then-is_switching-clause-entries g c =
    let s = c.args.self.now.state in
    let f = received_frame c.args.frame.now in
    let x = c.look.result.0.now in
    let r = c.look.result.1 in
    let block = sym (ap₂ (λ (t : State _) (n : ℕ). slice_get t.blocks n) (c.reach-reach.ensures.state ∙ ap (λ (t : StateAndReaches _). t.state) c.position_of.ensures.unchanged) c.reach-reach.ensures.at) ∙ c.look.ensures.block in
    let register_is = sym (ap₂ (λ (t : State _) (n : ℕ). slice_get t.registers n) (c.reach-reach.ensures.state ∙ ap (λ (t : StateAndReaches _). t.state) c.position_of.ensures.unchanged) c.reach-reach.ensures.at) ∙ c.look.ensures.register in
    let told = reason_told x f c.is_other_kind-is_other_kind.result s.mode c.is_simulating-mode.result r.takes_simulated None c.is_other_kind-is_other_kind.ensures (c.is_simulating-mode.ensures ∙ ap (λ (t : StateAndReaches _). t.state.mode) c.position_of.ensures.unchanged) c.in_default-first_reason.ensures in
    subst (λ (es : List (Entry g.row.A.Denot)). g.E.EntrySink.gets c.args.entries.now es c.put_good.new.entries)
    (answer_good c.args.now s.mode s.blocks s.registers f c.in-Some.at x r c.position_of.ensures.apart (sym c.in-Some.ensures.found) block register_is told) c.in_ok-put_good.ensures.entries

pub returns-then-is_switching-clause-registers : goal.returns-then-is_switching-clause-registers
returns-then-is_switching-clause-registers g c =
    let s = c.args.self.now.state in
    let f = received_frame c.args.frame.now in
    let x = c.look.result.0.now in
    let r = c.look.result.1 in
    let block = sym (ap₂ (λ (t : State _) (n : ℕ). slice_get t.blocks n) (c.reach-reach.ensures.state ∙ ap (λ (t : StateAndReaches _). t.state) c.position_of.ensures.unchanged) c.reach-reach.ensures.at) ∙ c.look.ensures.block in
    let register_is = sym (ap₂ (λ (t : State _) (n : ℕ). slice_get t.registers n) (c.reach-reach.ensures.state ∙ ap (λ (t : StateAndReaches _). t.state) c.position_of.ensures.unchanged) c.reach-reach.ensures.at) ∙ c.look.ensures.register in
    let told = reason_told x f c.is_other_kind-is_other_kind.result s.mode c.is_simulating-mode.result r.takes_simulated None c.is_other_kind-is_other_kind.ensures (c.is_simulating-mode.ensures ∙ ap (λ (t : StateAndReaches _). t.state.mode) c.position_of.ensures.unchanged) c.in_default-first_reason.ensures in
    let renewal = sym c.in_ok-put_good.ensures.held ∙ c.in-Some-2.is in
    let new = c.in-Some-2.held in
    let flag : true ≡ (r.takes_simulated || f.pdu.simulation) = (flag_set r f (sym c.is_switching.ensures ∙ c.if-is_switching.true)).1 in
    let fresh = new_lives c.args.now x r f _ new told renewal in
    let after =
    ap (λ (b : Bool). registers_after_clock c.args.now (set s.registers c.in-Some.at (record { held = Some new; takes_simulated = b }))) flag
    ∙ (written_new c.args.now s.registers c.in-Some.at r f new fresh renewal
    ∙ registers_good c.args.now s.mode s.blocks s.registers f c.in-Some.at x r c.position_of.ensures.sizes c.position_of.ensures.apart (sym c.in-Some.ensures.found) block register_is told) in
    let moved = ap (λ (t : State _). set t.registers c.in-Some.at (record { held = Some new; takes_simulated = true })) (c.reach-reach.ensures.state ∙ ap (λ (t : StateAndReaches _). t.state) c.position_of.ensures.unchanged) in
    ap (registers_after_clock c.args.now) (c.in_ok-switch_on-in-Some-2.ensures.registers ∙ moved) ∙ after

pub returns-then-is_switching-clause-count : goal.returns-then-is_switching-clause-count
returns-then-is_switching-clause-count g c =
    let s = c.args.self.now.state in
    let f = received_frame c.args.frame.now in
    let x = c.look.result.0.now in
    let r = c.look.result.1 in
    let block = sym (ap₂ (λ (t : State _) (n : ℕ). slice_get t.blocks n) (c.reach-reach.ensures.state ∙ ap (λ (t : StateAndReaches _). t.state) c.position_of.ensures.unchanged) c.reach-reach.ensures.at) ∙ c.look.ensures.block in
    let register_is = sym (ap₂ (λ (t : State _) (n : ℕ). slice_get t.registers n) (c.reach-reach.ensures.state ∙ ap (λ (t : StateAndReaches _). t.state) c.position_of.ensures.unchanged) c.reach-reach.ensures.at) ∙ c.look.ensures.register in
    let told = reason_told x f c.is_other_kind-is_other_kind.result s.mode c.is_simulating-mode.result r.takes_simulated None c.is_other_kind-is_other_kind.ensures (c.is_simulating-mode.ensures ∙ ap (λ (t : StateAndReaches _). t.state.mode) c.position_of.ensures.unchanged) c.in_default-first_reason.ensures in
    let renewal = sym c.in_ok-put_good.ensures.held ∙ c.in-Some-2.is in
    let new = c.in-Some-2.held in
    let register : Register = record { held = Some new; takes_simulated = true } in
    let fewer = written_fewer c.args.now s.registers c.in-Some.at register (new_lives c.args.now x r f _ new told renewal) in
    let moved = ap (λ (t : State _). set t.registers c.in-Some.at register) (c.reach-reach.ensures.state ∙ ap (λ (t : StateAndReaches _). t.state) c.position_of.ensures.unchanged) in
    let before = ap (λ (t : StateAndReaches _). t.reaches) c.position_of.ensures.unchanged in
    let first = c.reach-reach.ensures.count in
    let less = subst (λ (rs : List Register). due_count c.args.now (helds rs) ≤ due_count c.args.now (helds s.registers)) (sym (c.in_ok-switch_on-in-Some-2.ensures.registers ∙ moved)) fewer in
    omega (arith, less, c.in_ok-switch_on-in-Some-2.ensures.count, first, before)

pub hold-requires-clause-live : goal.hold-requires-clause-live
hold-requires-clause-live g c =
    let s = c.args.self.now.state in
    let f = received_frame c.args.frame.now in
    let x = c.look.result.0.now in
    let r = c.look.result.1 in
    let told = reason_told x f c.is_other_kind-is_other_kind.result s.mode c.is_simulating-mode.result r.takes_simulated None c.is_other_kind-is_other_kind.ensures (c.is_simulating-mode.ensures ∙ ap (λ (t : StateAndReaches _). t.state.mode) c.position_of.ensures.unchanged) c.in_default-first_reason.ensures in
    let renewal = sym c.in_ok-put_good.ensures.held ∙ c.in-Some-2.is in
    new_ahead c.args.now x r f _ c.in-Some-2.held told renewal

pub returns-else-is_switching-clause-entries : goal.returns-else-is_switching-clause-entries
returns-else-is_switching-clause-entries g c =
    let s = c.args.self.now.state in
    let f = received_frame c.args.frame.now in
    let x = c.look.result.0.now in
    let r = c.look.result.1 in
    let block = sym (ap₂ (λ (t : State _) (n : ℕ). slice_get t.blocks n) (c.reach-reach.ensures.state ∙ ap (λ (t : StateAndReaches _). t.state) c.position_of.ensures.unchanged) c.reach-reach.ensures.at) ∙ c.look.ensures.block in
    let register_is = sym (ap₂ (λ (t : State _) (n : ℕ). slice_get t.registers n) (c.reach-reach.ensures.state ∙ ap (λ (t : StateAndReaches _). t.state) c.position_of.ensures.unchanged) c.reach-reach.ensures.at) ∙ c.look.ensures.register in
    let told = reason_told x f c.is_other_kind-is_other_kind.result s.mode c.is_simulating-mode.result r.takes_simulated None c.is_other_kind-is_other_kind.ensures (c.is_simulating-mode.ensures ∙ ap (λ (t : StateAndReaches _). t.state.mode) c.position_of.ensures.unchanged) c.in_default-first_reason.ensures in
    subst (λ (es : List (Entry g.row.A.Denot)). g.E.EntrySink.gets c.args.entries.now es c.put_good.new.entries)
    (answer_good c.args.now s.mode s.blocks s.registers f c.in-Some.at x r c.position_of.ensures.apart (sym c.in-Some.ensures.found) block register_is told) c.in_ok-put_good.ensures.entries

pub returns-else-is_switching-clause-registers : goal.returns-else-is_switching-clause-registers
returns-else-is_switching-clause-registers g c =
    let s = c.args.self.now.state in
    let f = received_frame c.args.frame.now in
    let x = c.look.result.0.now in
    let r = c.look.result.1 in
    let block = sym (ap₂ (λ (t : State _) (n : ℕ). slice_get t.blocks n) (c.reach-reach.ensures.state ∙ ap (λ (t : StateAndReaches _). t.state) c.position_of.ensures.unchanged) c.reach-reach.ensures.at) ∙ c.look.ensures.block in
    let register_is = sym (ap₂ (λ (t : State _) (n : ℕ). slice_get t.registers n) (c.reach-reach.ensures.state ∙ ap (λ (t : StateAndReaches _). t.state) c.position_of.ensures.unchanged) c.reach-reach.ensures.at) ∙ c.look.ensures.register in
    let told = reason_told x f c.is_other_kind-is_other_kind.result s.mode c.is_simulating-mode.result r.takes_simulated None c.is_other_kind-is_other_kind.ensures (c.is_simulating-mode.ensures ∙ ap (λ (t : StateAndReaches _). t.state.mode) c.position_of.ensures.unchanged) c.in_default-first_reason.ensures in
    let renewal = sym c.in_ok-put_good.ensures.held ∙ c.in-Some-2.is in
    let here = ap (λ (t : State _). slice_get t.registers c.in-Some.at) (c.reach-reach.ensures.state ∙ ap (λ (t : StateAndReaches _). t.state) c.position_of.ensures.unchanged) ∙ register_is in
    let new = c.in-Some-2.held in
    let flag : r.takes_simulated ≡ (r.takes_simulated || f.pdu.simulation) = flag_left r f (sym c.is_switching.ensures ∙ c.if-is_switching.false) in
    let fresh = new_lives c.args.now x r f _ new told renewal in
    let after =
    ap (λ (b : Bool). registers_after_clock c.args.now (set s.registers c.in-Some.at (record { held = Some new; takes_simulated = b }))) flag
    ∙ (written_new c.args.now s.registers c.in-Some.at r f new fresh renewal
    ∙ registers_good c.args.now s.mode s.blocks s.registers f c.in-Some.at x r c.position_of.ensures.sizes c.position_of.ensures.apart (sym c.in-Some.ensures.found) block register_is told) in
    let moved = ap (λ (t : State _). set t.registers c.in-Some.at (record { held = Some new; takes_simulated = r.takes_simulated })) (c.reach-reach.ensures.state ∙ ap (λ (t : StateAndReaches _). t.state) c.position_of.ensures.unchanged) in
    ap (registers_after_clock c.args.now) (c.hold.ensures.registers r here ∙ moved) ∙ after

pub returns-else-is_switching-clause-count : goal.returns-else-is_switching-clause-count
returns-else-is_switching-clause-count g c =
    let s = c.args.self.now.state in
    let f = received_frame c.args.frame.now in
    let x = c.look.result.0.now in
    let r = c.look.result.1 in
    let block = sym (ap₂ (λ (t : State _) (n : ℕ). slice_get t.blocks n) (c.reach-reach.ensures.state ∙ ap (λ (t : StateAndReaches _). t.state) c.position_of.ensures.unchanged) c.reach-reach.ensures.at) ∙ c.look.ensures.block in
    let register_is = sym (ap₂ (λ (t : State _) (n : ℕ). slice_get t.registers n) (c.reach-reach.ensures.state ∙ ap (λ (t : StateAndReaches _). t.state) c.position_of.ensures.unchanged) c.reach-reach.ensures.at) ∙ c.look.ensures.register in
    let told = reason_told x f c.is_other_kind-is_other_kind.result s.mode c.is_simulating-mode.result r.takes_simulated None c.is_other_kind-is_other_kind.ensures (c.is_simulating-mode.ensures ∙ ap (λ (t : StateAndReaches _). t.state.mode) c.position_of.ensures.unchanged) c.in_default-first_reason.ensures in
    let renewal = sym c.in_ok-put_good.ensures.held ∙ c.in-Some-2.is in
    let here = ap (λ (t : State _). slice_get t.registers c.in-Some.at) (c.reach-reach.ensures.state ∙ ap (λ (t : StateAndReaches _). t.state) c.position_of.ensures.unchanged) ∙ register_is in
    let new = c.in-Some-2.held in
    let register : Register = record { held = Some new; takes_simulated = r.takes_simulated } in
    let fewer = written_fewer c.args.now s.registers c.in-Some.at register (new_lives c.args.now x r f _ new told renewal) in
    let moved = ap (λ (t : State _). set t.registers c.in-Some.at register) (c.reach-reach.ensures.state ∙ ap (λ (t : StateAndReaches _). t.state) c.position_of.ensures.unchanged) in
    let before = ap (λ (t : StateAndReaches _). t.reaches) c.position_of.ensures.unchanged in
    let first = c.reach-reach.ensures.count in
    let less = subst (λ (rs : List Register). due_count c.args.now (helds rs) ≤ due_count c.args.now (helds s.registers)) (sym (c.hold.ensures.registers r here ∙ moved)) fewer in
    omega (arith, less, c.hold.ensures.count, first, before)

pub returns-in_err-put_good-clause-room : goal.returns-in_err-put_good-clause-room
returns-in_err-put_good-clause-room g c = λ none fits.
    let s = c.args.self.now.state in
    let f = received_frame c.args.frame.now in
    let x = c.look.result.0.now in
    let r = c.look.result.1 in
    let block = sym (ap₂ (λ (t : State _) (n : ℕ). slice_get t.blocks n) (c.reach-reach.ensures.state ∙ ap (λ (t : StateAndReaches _). t.state) c.position_of.ensures.unchanged) c.reach-reach.ensures.at) ∙ c.look.ensures.block in
    let register_is = sym (ap₂ (λ (t : State _) (n : ℕ). slice_get t.registers n) (c.reach-reach.ensures.state ∙ ap (λ (t : StateAndReaches _). t.state) c.position_of.ensures.unchanged) c.reach-reach.ensures.at) ∙ c.look.ensures.register in
    let told = reason_told x f c.is_other_kind-is_other_kind.result s.mode c.is_simulating-mode.result r.takes_simulated None c.is_other_kind-is_other_kind.ensures (c.is_simulating-mode.ensures ∙ ap (λ (t : StateAndReaches _). t.state.mode) c.position_of.ensures.unchanged) c.in_default-first_reason.ensures in
    let same = answer_good c.args.now s.mode s.blocks s.registers f c.in-Some.at x r c.position_of.ensures.apart (sym c.in-Some.ensures.found) block register_is told in
    absurd (false≢true (c.in_err-put_good.ensures.room (ap changes same ∙ none) fits))

pub returns-in_err-switch_on-in-Some-2-clause-room : goal.returns-in_err-switch_on-in-Some-2-clause-room
returns-in_err-switch_on-in-Some-2-clause-room g c = λ none fits.
    let s = c.args.self.now.state in
    let f = received_frame c.args.frame.now in
    let x = c.look.result.0.now in
    let r = c.look.result.1 in
    let block = sym (ap₂ (λ (t : State _) (n : ℕ). slice_get t.blocks n) (c.reach-reach.ensures.state ∙ ap (λ (t : StateAndReaches _). t.state) c.position_of.ensures.unchanged) c.reach-reach.ensures.at) ∙ c.look.ensures.block in
    let register_is = sym (ap₂ (λ (t : State _) (n : ℕ). slice_get t.registers n) (c.reach-reach.ensures.state ∙ ap (λ (t : StateAndReaches _). t.state) c.position_of.ensures.unchanged) c.reach-reach.ensures.at) ∙ c.look.ensures.register in
    let told = reason_told x f c.is_other_kind-is_other_kind.result s.mode c.is_simulating-mode.result r.takes_simulated None c.is_other_kind-is_other_kind.ensures (c.is_simulating-mode.ensures ∙ ap (λ (t : StateAndReaches _). t.state.mode) c.position_of.ensures.unchanged) c.in_default-first_reason.ensures in
    let same = answer_good c.args.now s.mode s.blocks s.registers f c.in-Some.at x r c.position_of.ensures.apart (sym c.in-Some.ensures.found) block register_is told in
    absurd (no_switch c.in-Some.at c.args.now r f (ap changes same ∙ none) (sym c.is_switching.ensures ∙ c.if-is_switching.true))

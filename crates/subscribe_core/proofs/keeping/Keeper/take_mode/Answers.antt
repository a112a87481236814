use Rattle.std.proofs.Common.{Bool, List, length, ap, subst, sym, ◌∙◌, arith}
use Rattle.std.proofs.lemmas.Bool.{false≢true}
use Rattle.subscribe_core.specs.declared.entry.Entry.{Entry}
use Rattle.subscribe_core.specs.declared.registers.Register.{Register}
use Rattle.subscribe_core.specs.Looks.{switched_count}
use Rattle.subscribe_core.specs.computed.Deadlines.{due_count, helds}
use Rattle.subscribe_core.specs.computed.Flagged.{flagged_count}
use Rattle.subscribe_core.specs.computed.Indexed.{registers_after_clock, switched_off}
use Rattle.subscribe_core.specs.computed.PrivateCalls.{StateAndReaches}
use Rattle.subscribe_core.specs.EventsRead.{OfMode}
use Rattle.subscribe_core.specs.computed.Steps.{registers_by, switched_entries}
use Rattle.subscribe_core.proofs.Flagging.{due_off, flagged_counted}
use Rattle.subscribe_core.proofs.Switching.{registers_off, registers_on, switched_off_entries, switched_on}
use Rattle.subscribe_core.proofs.keeping.Keeper.take_mode.Goals as goal

pub returns-then-on-clause-entries : goal.returns-then-on-clause-entries
returns-then-on-clause-entries g c =
    let s = c.args.self.now.state in
    let none = ap (λ (on : Bool). switched_entries s.mode (OfMode on) 0 s.blocks s.registers) c.if-on.true ∙ switched_on s.mode s.blocks s.registers in
    subst (λ (es : List (Entry g.row.A.Denot)). g.E.EntrySink.gets c.args.entries.now es c.args.entries.now) (sym none) (g.met.E.EntrySink.gets_none _)

pub returns-then-on-clause-grown : goal.returns-then-on-clause-grown
returns-then-on-clause-grown g c = g.met.E.EntrySink.grows_none _

pub returns-then-on-clause-registers : goal.returns-then-on-clause-registers
returns-then-on-clause-registers g c = λ now.
    let s = c.args.self.now.state in
    let same = ap length (sym c.set_mode.ensures.registers) ∙ (c.set_mode.ensures.sizes ∙ ap length c.set_mode.ensures.blocks) in
    ap (registers_after_clock now) c.set_mode.ensures.registers
    ∙ (registers_on now s.mode s.blocks s.registers same
    ∙ ap (λ (on : Bool). registers_by now s.mode (OfMode on) s.blocks s.registers) (sym c.if-on.true))

pub returns-in_err-list_switched-clause-quiet : goal.returns-in_err-list_switched-clause-quiet
returns-in_err-list_switched-clause-quiet g c = λ none.
    let s = c.args.self.now.state in
    let off = ap (λ (on : Bool). switched_entries s.mode (OfMode on) 0 s.blocks s.registers) (sym c.if-on.false) ∙ none in
    absurd (false≢true (c.in_err-list_switched.ensures.quiet (sym (switched_off_entries s.mode 0 s.blocks s.registers c.list_switched.ensures.sizes) ∙ off)))

pub returns-clause-entries : goal.returns-clause-entries
returns-clause-entries g c =
    let s = c.args.self.now.state in
    let same = switched_off_entries s.mode 0 s.blocks s.registers c.list_switched.ensures.sizes in
    subst (λ (es : List (Entry g.row.A.Denot)). g.E.EntrySink.gets c.args.entries.now es c.list_switched.new.entries)
    (sym (ap (λ (on : Bool). switched_entries s.mode (OfMode on) 0 s.blocks s.registers) c.if-on.false ∙ same)) c.in_ok-list_switched.ensures.entries

pub returns-clause-registers : goal.returns-clause-registers
returns-clause-registers g c = λ now.
    let s = c.args.self.now.state in
    ap (registers_after_clock now)
    (c.set_mode-2.ensures.registers ∙ (c.switch_off.ensures.registers ∙ ap (λ (t : StateAndReaches _). switched_off t.state.registers) c.list_switched.ensures.unchanged))
    ∙ sym (ap (λ (on : Bool). registers_by now s.mode (OfMode on) s.blocks s.registers) c.if-on.false
    ∙ registers_off now s.mode s.blocks s.registers c.list_switched.ensures.sizes)

pub returns-then-on-clause-count : goal.returns-then-on-clause-count
returns-then-on-clause-count g c = λ now.
    let due = ap (λ (rs : List Register). due_count now (helds rs)) c.set_mode.ensures.registers in
    omega (arith, due, c.set_mode.ensures.reaches)

pub returns-clause-count : goal.returns-clause-count
returns-clause-count g c = λ now.
    let s = c.args.self.now.state in
    let told = ap (λ (on : Bool). switched_count (switched_entries {A = g.row.A.Denot} s.mode (OfMode on) 0 s.blocks s.registers)) c.if-on.false
    ∙ (ap switched_count (switched_off_entries s.mode 0 s.blocks s.registers c.list_switched.ensures.sizes) ∙ sym (flagged_counted g.row.A.Denot 0 s.registers)) in
    let same = ap (λ (t : StateAndReaches _). t.state.registers) c.list_switched.ensures.unchanged in
    let before = ap (λ (t : StateAndReaches _). t.reaches) c.list_switched.ensures.unchanged in
    let flags = ap flagged_count same in
    let after = ap (λ (rs : List Register). due_count now (helds rs)) (c.set_mode-2.ensures.registers ∙ (c.switch_off.ensures.registers ∙ ap switched_off same)) in
    omega (arith, told, before, flags, after, due_off now s.registers, c.switch_off.ensures.count, c.set_mode-2.ensures.reaches)

use Rattle.std.proofs.Common.{◌++◌, List, ap, subst, sym, ◌∙◌, append-nil}
use Rattle.list_core.specs.declared.event.EventKind.{EventKind}
use Rattle.subscribe_core.specs.declared.entry.Entry.{Entry}
use Rattle.subscribe_core.specs.computed.Content.{content_of}
use Rattle.subscribe_core.specs.computed.Steps.{registers_by, said_of, switched_entries}
use Rattle.subscribe_core.proofs.Changing.{changes_front, none_switched}
use Rattle.subscribe_core.proofs.Switching.{registers_clock, switched_clock}
use Rattle.subscribe_core.proofs.keeping.Keeper.take_kind.Goals as goal

pub returns-in-Clock-clause-entries : goal.returns-in-Clock-clause-entries
returns-in-Clock-clause-entries g c =
    let s = c.args.self.now.state in
    let none = ap (λ (k : EventKind _). switched_entries s.mode (content_of k) 0 s.blocks s.registers ++ said_of c.args.now s.mode s.blocks s.registers (content_of k)) c.in-Clock.is
    ∙ (append-nil _ ∙ switched_clock s.mode s.blocks s.registers) in
    subst (λ (es : List (Entry g.row.A.Denot)). g.E.EntrySink.gets c.args.entries.now es c.args.entries.now) (sym none) (g.met.E.EntrySink.gets_none _)

pub returns-in-Clock-clause-grown : goal.returns-in-Clock-clause-grown
returns-in-Clock-clause-grown g c = g.met.E.EntrySink.grows_none _

pub returns-in-Clock-clause-registers : goal.returns-in-Clock-clause-registers
returns-in-Clock-clause-registers g c =
    let s = c.args.self.now.state in
    registers_clock c.args.now s.mode s.blocks s.registers c.know_sizes.ensures
    ∙ sym (ap (λ (k : EventKind _). registers_by c.args.now s.mode (content_of k) s.blocks s.registers) c.in-Clock.is)

pub returns-in-Mode-clause-room : goal.returns-in-Mode-clause-room
returns-in-Mode-clause-room g c = λ none fits.
    let s = c.args.self.now.state in
    let k = content_of c.args.kind.now in
    let still = none_switched s.mode k 0 s.blocks s.registers (changes_front (switched_entries s.mode k 0 s.blocks s.registers) (said_of c.args.now s.mode s.blocks s.registers k) none) in
    c.take_mode.ensures.quiet (sym (ap (λ (x : EventKind _). switched_entries s.mode (content_of x) 0 s.blocks s.registers) c.in-Mode.is) ∙ still)

use Rattle.std.proofs.Common.{List, ap, sym, ◌∙◌, arith, refl}
use Rattle.subscribe_core.specs.declared.registers.Register.{Register}
use Rattle.subscribe_core.specs.computed.Deadlines.{due_count, helds}
use Rattle.subscribe_core.specs.computed.Indexed.{registers_after_clock}
use Rattle.subscribe_core.specs.computed.PrivateCalls.{StateAndReaches}
use Rattle.subscribe_core.proofs.Clearing.{cleared_set, count_set, cleared_none, due_within, helds_set, held_of, indexed_write, let_go, register_of}
use Rattle.subscribe_core.proofs.Flagging.{flagged_kept}
use Rattle.subscribe_core.proofs.keeping.Keeper.expire.Goals as goal

pub take_due-requires : goal.take_due-requires
take_due-requires g c = record { tree = c.loop-at.invariant.indexed.timed.tree }

pub let_go-requires : goal.let_go-requires
let_go-requires g c =
    let registers = c.loop-at.self-inside.rows.registers.items in
    record { within = due_within registers c.in-Some.at c.args.now (c.in-Some.ensures.due (helds registers) c.loop-at.invariant.indexed.timed) }

pub loop-at-preserved : goal.loop-at-preserved
loop-at-preserved g c =
    let registers = c.loop-at.self-inside.rows.registers.items in
    let at = c.in-Some.at in
    let due = c.in-Some.ensures.due (helds registers) c.loop-at.invariant.indexed.timed in
    let here = register_of registers at (due_within registers at c.args.now due) in
    let is = c.let_go.ensures.registers here.0 here.1 in
    let over = rw (held_of registers at here.0 here.1) at due in
    let counted = count_set (helds registers) at c.args.now due in
    let after = ap (λ (rs : List Register). due_count c.args.now (helds rs)) is ∙ ap (due_count c.args.now) (helds_set registers at (let_go here.0)) in
    record {
      indexed = indexed_write _ _ registers _ _ at (let_go here.0) _ _ _ _ (ap (λ b. b.items) c.let_go.ensures.blocks) is c.loop-at.invariant.indexed
          (c.in-Some.ensures.taken (helds registers) c.loop-at.invariant.indexed.timed) (flagged_kept _ registers at here.0 (let_go here.0) here.1 refl c.loop-at.invariant.indexed.flagged);
      same = ap (registers_after_clock c.args.now) is ∙ (cleared_set registers at c.args.now here.0 here.1 over ∙ c.loop-at.invariant.same);
      counted = omega (arith, c.loop-at.invariant.counted);
      blocks_stay = ap (λ b. b.items) c.let_go.ensures.blocks ∙ c.loop-at.invariant.blocks_stay;
      mode_stays = c.loop-at.invariant.mode_stays;
      moment_stays = c.loop-at.invariant.moment_stays;
    }

pub loop-at-smaller : goal.loop-at-smaller
loop-at-smaller g c =
    let registers = c.loop-at.self-inside.rows.registers.items in
    let at = c.in-Some.at in
    let due = c.in-Some.ensures.due (helds registers) c.loop-at.invariant.indexed.timed in
    let here = register_of registers at (due_within registers at c.args.now due) in
    let is = c.let_go.ensures.registers here.0 here.1 in
    let counted = count_set (helds registers) at c.args.now due in
    let after = ap (λ (rs : List Register). due_count c.args.now (helds rs)) is ∙ ap (due_count c.args.now) (helds_set registers at (let_go here.0)) in
    omega arith

pub returns-clause-registers : goal.returns-clause-registers
returns-clause-registers g c =
    let registers = c.loop-at.self-inside.rows.registers.items in
    let none = cleared_none registers c.args.now (λ at. c.in_default.ensures.none (helds registers) at c.loop-at.invariant.indexed.timed) in
    sym none ∙ (c.loop-at.invariant.same ∙ ap (λ (s : StateAndReaches _). registers_after_clock c.args.now s.state.registers) c.self.view_is)

pub returns-clause-blocks : goal.returns-clause-blocks
returns-clause-blocks g c = c.loop-at.invariant.blocks_stay ∙ ap (λ (s : StateAndReaches _). s.state.blocks) c.self.view_is

pub returns-clause-mode : goal.returns-clause-mode
returns-clause-mode g c = c.loop-at.invariant.mode_stays ∙ ap (λ (s : StateAndReaches _). s.state.mode) c.self.view_is

pub returns-clause-moment : goal.returns-clause-moment
returns-clause-moment g c = c.loop-at.invariant.moment_stays ∙ ap (λ (s : StateAndReaches _). s.state.moment) c.self.view_is

pub invariant_of-self : goal.invariant_of-self
invariant_of-self g c = rw c.in_default.ensures.unchanged c.loop-at.invariant.indexed

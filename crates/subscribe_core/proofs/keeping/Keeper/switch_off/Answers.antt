use Rattle.std.proofs.Common.{ap, sym, ◌∙◌, arith, refl}
use Rattle.subscribe_core.specs.State.{idle}
use Rattle.subscribe_core.specs.computed.Deadlines.{helds}
use Rattle.subscribe_core.specs.computed.Flagged.{flagged_count}
use Rattle.subscribe_core.specs.computed.Indexed.{switched_off}
use Rattle.subscribe_core.specs.computed.PrivateCalls.{StateAndReaches}
use Rattle.subscribe_core.proofs.Clearing.{indexed_write}
use Rattle.subscribe_core.proofs.Flagging.{count_off, flag_within, flagged_none, off_set}
use Rattle.subscribe_core.proofs.keeping.Keeper.switch_off.Goals as goal

pub write-requires : goal.write-requires
write-requires g c =
    let registers = c.loop-at.self-inside.rows.registers.items in
    record { within = flag_within registers c.in-Some.at (c.in-Some.ensures.flagged registers c.loop-at.invariant.indexed.flagged) }

pub loop-at-preserved : goal.loop-at-preserved
loop-at-preserved g c =
    let registers = c.loop-at.self-inside.rows.registers.items in
    let at = c.in-Some.at in
    let i = c.loop-at.invariant in
    let flag = c.in-Some.ensures.flagged registers i.indexed.flagged in
    let fewer = count_off registers at flag in
    let after = ap flagged_count c.write.ensures.registers in
    record {
      indexed = indexed_write _ _ registers _ _ at idle _ _ _ _ (ap (λ b. b.items) c.write.ensures.blocks) c.write.ensures.registers i.indexed
          (c.let_go.ensures (helds registers) i.indexed.timed) (c.in-Some.ensures.taken registers idle refl i.indexed.flagged);
      same = ap switched_off c.write.ensures.registers ∙ (off_set registers at flag ∙ i.same);
      counted = omega (arith, fewer, after, i.counted, c.write.ensures.count);
      blocks_stay = ap (λ b. b.items) c.write.ensures.blocks ∙ i.blocks_stay;
      mode_stays = i.mode_stays;
      moment_stays = i.moment_stays;
    }

pub returns-clause-registers : goal.returns-clause-registers
returns-clause-registers g c =
    let registers = c.loop-at.self-inside.rows.registers.items in
    let none = flagged_none _ registers c.in_default.ensures.none c.loop-at.invariant.indexed.flagged in
    sym none ∙ (c.loop-at.invariant.same ∙ ap (λ (s : StateAndReaches _). switched_off s.state.registers) c.self.view_is)

pub returns-clause-blocks : goal.returns-clause-blocks
returns-clause-blocks g c = c.loop-at.invariant.blocks_stay ∙ ap (λ (s : StateAndReaches _). s.state.blocks) c.self.view_is

pub returns-clause-mode : goal.returns-clause-mode
returns-clause-mode g c = c.loop-at.invariant.mode_stays ∙ ap (λ (s : StateAndReaches _). s.state.mode) c.self.view_is

pub returns-clause-moment : goal.returns-clause-moment
returns-clause-moment g c = c.loop-at.invariant.moment_stays ∙ ap (λ (s : StateAndReaches _). s.state.moment) c.self.view_is

pub invariant_of-self : goal.invariant_of-self
invariant_of-self g c = rw c.in_default.ensures.unchanged c.loop-at.invariant.indexed

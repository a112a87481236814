use Rattle.std.proofs.Common.{length}
use Rattle.subscribe_core.proofs.Flagging.{IsSwitching}
use Rattle.subscribe_core.proofs.keeping.Keeper.switch_off.Given as goal

-- the indexes agree all the while, and the blocks whose positions are left are those to switch
abbrev pub invariant-loop-at : goal.invariant-loop-at
invariant-loop-at g l = IsSwitching l.initial.self-inside.rows.blocks.items l.initial.self-inside.rows.registers.items l.initial.self-inside.rows.reaches
    l.self-inside.rows.blocks.items l.self-inside.rows.registers.items l.self-inside.names.items l.self-inside.deadlines l.self-inside.flagged.positions.items l.self-inside.rows.reaches
    l.initial.self-inside.mode l.self-inside.mode l.initial.self-inside.moment l.self-inside.moment

abbrev pub decreases-loop-at : goal.decreases-loop-at
decreases-loop-at g l = length l.self-inside.flagged.positions.items

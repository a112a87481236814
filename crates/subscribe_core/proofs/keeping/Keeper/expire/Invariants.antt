use Rattle.subscribe_core.specs.computed.Deadlines.{due_count, helds}
use Rattle.subscribe_core.proofs.Clearing.{IsClearing}
use Rattle.subscribe_core.proofs.keeping.Keeper.expire.Given as goal

-- the indexes agree all the while, and what is still due is what is left to let go
abbrev pub invariant-loop-at : goal.invariant-loop-at
invariant-loop-at g l = IsClearing l.now l.initial.self-inside.rows.blocks.items l.initial.self-inside.rows.registers.items l.initial.self-inside.rows.reaches
    l.self-inside.rows.blocks.items l.self-inside.rows.registers.items l.self-inside.names.items l.self-inside.deadlines l.self-inside.flagged.positions.items l.self-inside.rows.reaches
    l.initial.self-inside.mode l.self-inside.mode l.initial.self-inside.moment l.self-inside.moment

abbrev pub decreases-loop-at : goal.decreases-loop-at
decreases-loop-at g l = due_count l.now (helds l.self-inside.rows.registers.items)

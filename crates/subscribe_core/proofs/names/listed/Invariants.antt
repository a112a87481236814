use Rattle.std.proofs.Common.{take}
use Rattle.subscribe_core.specs.computed.Names.{AreNamesOf}
use Rattle.subscribe_core.proofs.names.listed.Given as goal

-- the names of those gone through
abbrev pub invariant-loop-position : goal.invariant-loop-position
invariant-loop-position g l = AreNamesOf l.names.items (take l.position l.blocks)

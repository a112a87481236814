use Rattle.std.proofs.Common.{◌≤◌, length, take}
use Rattle.subscribe_core.specs.computed.Flagged.{switched_at}
use Rattle.subscribe_core.proofs.flagged.put_switched.Given as goal

-- an entry for each of those gone through
abbrev pub invariant-loop-at : goal.invariant-loop-at
invariant-loop-at g l = record {
  within : l.at-index ≤ length l.positions;
  grown : g.E.EntrySink.grows l.initial.entries l.entries;
  listed : g.E.EntrySink.gets l.initial.entries (switched_at (take l.at-index l.positions)) l.entries;
}

use Rattle.std.proofs.Common.{◌≤◌, take}
use Rattle.inventory_engine.proofs.SubscribedLines.{WroteOf}
use Rattle.inventory_engine.proofs.subscribed.put_all_subscribed.Given as goal

-- the lines of the blocks gone through
abbrev pub invariant-loop-block : goal.invariant-loop-block
invariant-loop-block g l = record {
  few : l.position ≤ l.block-index;
  so_far : WroteOf l.style (take l.block-index l.listed) l.position l.initial.out.items l.out.items;
}

use Rattle.std.proofs.Common.{◌≡◌, ◌++◌, ◌≤◌, ℕ, List, length, take}
use Rattle.exchange_engines.specs.EntryObject.{AreEntryObjects}
use Rattle.exchange_engines.proofs.texts.entry_object.put_entry_objects.Given as goal

abbrev pub invariant-loop-entry : goal.invariant-loop-entry
invariant-loop-entry g l = record {
  within : l.entry-index ≤ length l.entries;
  text : (text : List ℕ) × (l.out.items ≡ l.initial.out.items ++ text) × AreEntryObjects l.heading.counted l.heading.blocks.now l.heading.number l.heading.moment (take l.entry-index l.entries) text;
}

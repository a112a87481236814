use Rattle.std.proofs.Common.{◌≡◌, ◌++◌, ◌≤◌, length, take}
use Rattle.exchange_engines.specs.EntryText.{entry_lines}
use Rattle.exchange_engines.proofs.texts.entry.put_entry_lines.Given as goal

abbrev pub invariant-loop-entry : goal.invariant-loop-entry
invariant-loop-entry g l = record {
  within : l.entry-index ≤ length l.entries;
  text : l.out.items ≡ l.initial.out.items ++ entry_lines l.number (take l.entry-index l.entries);
}

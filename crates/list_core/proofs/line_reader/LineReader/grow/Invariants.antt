use Rattle.std.proofs.Common.{◌≡◌, ◌-◌, ◌≤◌, ◌⊎◌, length, take, List, [], ℕ, ◌++◌}
use Rattle.std.specs.Io.KnownBytes.{Consumes}
use Rattle.list_core.specs.Device.{OnlyOpen}
use Rattle.list_core.specs.Cuts.{HasNo}
use Rattle.list_core.specs.Reader.{held, IsWanting}
use Rattle.list_core.proofs.line_reader.LineReader.grow.Given as goal

abbrev pub invariant-reads : goal.invariant-reads
invariant-reads g l = record {
  within : l.scanned ≤ length (held l.self);
  before : HasNo 10 (take l.scanned (held l.self));
  given : (given : List ℕ) × (held l.self ≡ held l.initial.self ++ given) × OnlyOpen (g.R.Source.ending l.initial.self.reader) given (g.R.Source.ending l.self.reader) × Consumes (g.R.Source.left l.initial.self.reader) (g.R.Source.left l.self.reader) given
      × (((given ≡ []) × (g.R.Source.left l.self.reader ≡ g.R.Source.left l.initial.self.reader)) ⊎ IsWanting (held l.initial.self));
  ending : g.R.Source.ending l.self.reader ≡ g.R.Source.ending l.initial.self.reader;
  taken : l.self.taken ≡ l.initial.self.taken;
  number : l.self.number ≡ l.initial.self.number;
}

abbrev pub decreases-reads : goal.decreases-reads
decreases-reads g l = 8192 - length (held l.self)

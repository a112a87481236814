use Rattle.std.proofs.Common.{◌≡◌, ◌-◌, ◌≤◌, length, take}
use Rattle.std.specs.Io.KnownBytes.{Consumes}
use Rattle.list_core.specs.Device.{OnlyOpen}
use Rattle.capture_core.proofs.filling.fill_by_reads.Given as goal

abbrev pub invariant-reads : goal.invariant-reads
invariant-reads g l = record {
  within : l.count ≤ length l.into;
  took : Consumes (g.R.Source.left l.initial.reader) (g.R.Source.left l.reader) (take l.count l.into);
  only_open : OnlyOpen (g.R.Source.ending l.initial.reader) (take l.count l.into) (g.R.Source.ending l.reader);
  same : g.R.Source.ending l.reader ≡ g.R.Source.ending l.initial.reader;
}

abbrev pub decreases-reads : goal.decreases-reads
decreases-reads g l = length l.into - l.count

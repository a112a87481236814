use Rattle.std.proofs.Common.{◌≡◌, ℕ, ◌+◌, List, length}
use Rattle.std.specs.Io.KnownBytes.{Consumes}
use Rattle.list_core.specs.Device.{OnlyOpen}
use Rattle.capture_core.proofs.filling.skip_by_reads.Given as goal

abbrev pub invariant-pieces : goal.invariant-pieces
invariant-pieces g l = record {
  sized : length l.piece ≡ 512;
  passed : (given : List ℕ) × (length given + l.left ≡ l.size) × Consumes (g.R.Source.left l.initial.reader) (g.R.Source.left l.reader) given
      × OnlyOpen (g.R.Source.ending l.initial.reader) given (g.R.Source.ending l.reader)
      × (g.R.Source.ending l.reader ≡ g.R.Source.ending l.initial.reader);
}

abbrev pub decreases-pieces : goal.decreases-pieces
decreases-pieces g l = l.left

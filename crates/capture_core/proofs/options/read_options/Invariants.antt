use Rattle.std.proofs.Common.{◌≡◌, ℕ, ◌+◌, List, ◌++◌, length}
use Rattle.std.specs.Io.KnownBytes.{Consumes}
use Rattle.list_core.specs.Device.{OnlyOpen}
use Rattle.capture_core.specs.Interfaces.{options_in}
use Rattle.capture_core.proofs.options.read_options.Given as goal

abbrev pub invariant-options : goal.invariant-options
invariant-options g l = (given : List ℕ) × (length given + l.left ≡ l.fn.size) × Consumes (g.R.Source.left l.initial.reader) (g.R.Source.left l.reader) given
    × OnlyOpen (g.R.Source.ending l.initial.reader) given (g.R.Source.ending l.reader) × (g.R.Source.ending l.reader ≡ g.R.Source.ending l.initial.reader)
    × ((rest : List ℕ) → length rest ≡ l.left → options_in l.order (given ++ rest) l.fn.plain ≡ options_in l.order rest l.interface)

abbrev pub decreases-options : goal.decreases-options
decreases-options g l = l.left

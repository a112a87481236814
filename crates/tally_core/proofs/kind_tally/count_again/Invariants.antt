use Rattle.std.proofs.Common.{false, ◌≡◌, ◌++◌, map, take, drop}
use Rattle.std.specs.List.{list_any}
use Rattle.tally_core.specs.Tally.{again_of, is_of}
use Rattle.tally_core.proofs.kind_tally.count_again.Given as goal

-- the kinds in front are counted, and those from here on are as they were; so are all where none was found
abbrev pub invariant-kinds : goal.invariant-kinds
invariant-kinds l =
    (l.kinds ≡ map (again_of l.fn.kind) (take l.i l.initial.kinds) ++ drop l.i l.initial.kinds)
    × (l.found ≡ list_any (is_of l.fn.kind) (take l.i l.initial.kinds))
    × (l.found ≡ false → l.kinds ≡ l.initial.kinds)

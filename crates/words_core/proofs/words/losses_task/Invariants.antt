use Rattle.std.proofs.Common.{◌≡◌, map, take}
use Rattle.std.specs.Prelude.{Some}
use Rattle.clap.specs.Walk.{texts}
use Rattle.words_core.specs.CommandLine.{period_at}
use Rattle.words_core.proofs.words.losses_task.Given as goal

-- the periods of the texts gone through
abbrev pub invariant-loop-position : goal.invariant-loop-position
invariant-loop-position l = map Some l.periods.items ≡ map period_at (texts (take l.position l.words))

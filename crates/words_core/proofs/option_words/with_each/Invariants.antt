use Rattle.std.proofs.Common.{map, take}
use Rattle.std.specs.Prelude.{fold}
use Rattle.clap.specs.Words.{App, with_rule}
use Rattle.words_core.specs.CommandLine.{option_named}
use Rattle.words_core.specs.computed.OfferedLine.{IsApp, IsLocal}
use Rattle.words_core.proofs.option_words.with_each.Given as goal

-- the options gone through are there
abbrev pub invariant-loop-name : goal.invariant-loop-name
invariant-loop-name l =
    ((a : App) → IsApp a l.fn.command → IsApp (fold with_rule a (map (λ o. option_named o.0.now) (take l.name-index l.options))) l.command)
    × (IsLocal l.fn.command → IsLocal l.command)

-- Findings of which some are not there.
use Rattle.std.specs.Prelude.{List, Option, option_to_list}
use Rattle.std.specs.List.{flat_map}
use Rattle.loss_core.specs.declared.finding.Finding.{Finding}

-- those that are there
abbrev pub given : List (Option Finding) → List Finding
given findings = flat_map option_to_list findings

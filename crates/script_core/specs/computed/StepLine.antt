-- The line of a step of the table: WAIT, LIVE. Steps stand behind the control line.
use Rattle.std.specs.Prelude.{ℕ, ◌+◌, ◌&&◌, nat_lt, List, [], ◌∷◌, Option, Some, None, Result, Ok, Err, if◌then◌else◌}
use Rattle.publish_core.specs.declared.table.Step.{Step}
use Rattle.publish_core.specs.Table.{most_steps}
use Rattle.block_core.specs.Commas.{number_by}
use Rattle.script_core.specs.declared.script.ScriptCause.{ScriptCause}
use Rattle.script_core.specs.declared.script.ScriptCause.TheVariants as cause
use Rattle.script_core.specs.declared.script.ScriptItem.{ScriptItem}
use Rattle.script_core.specs.declared.script.ScriptItem.TheVariants as item
use Rattle.script_core.specs.declared.script.ScriptPart.{ScriptPart}
use Rattle.script_core.specs.declared.script.ScriptPart.TheVariants as part

-- a step of these times
abbrev pub step_with : Option ℕ → Option ℕ → Option Step
step_with (Some wait) (Some live) = Some (record { wait_ms = wait; live_ms = live })
step_with _ _ = None

-- WAIT, LIVE
abbrev pub step_said_by : List (List ℕ) → Option Step
step_said_by (wait ∷ live ∷ []) = step_with (number_by wait) (number_by live)
step_said_by _ = None

-- a step stands behind the control line, with fewer than the most steps before it: it waits, and its frame lives longer than that
abbrev pub step_said : {A : Type 0} → ScriptPart → Option Step → Result (Option (ScriptItem A) × ScriptPart) ScriptCause
step_said (part.Steps n) (Some s) =
    if nat_lt 0 s.wait_ms && nat_lt s.wait_ms s.live_ms then (if nat_lt n most_steps then Ok (Some (item.Step s), part.Steps (n + 1)) else Err cause.StepCount) else Err cause.StepTimes
step_said _ _ = Err cause.ScriptForm

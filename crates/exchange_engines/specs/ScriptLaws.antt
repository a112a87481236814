-- What holds of each script: what stands before a line of it.
use Rattle.std.specs.Prelude.{◌≡◌, ◌<◌, ℕ, List, [], ◌∷◌, ◌++◌, length}
use Rattle.list_core.specs.declared.device.InputEnd.{InputEnd}
use Rattle.list_core.specs.Items.{listing}
use Rattle.publish_core.specs.Frames.{Setup}
use Rattle.publish_core.specs.Run.{Call}
use Rattle.publish_core.specs.Table.{most_steps}
use Rattle.script_core.specs.declared.script.ScriptItem.{ScriptItem}
use Rattle.script_core.specs.declared.script.ScriptItem.TheVariants as item
use Rattle.script_core.specs.declared.script.ScriptLines.TheVariants.{First}
use Rattle.script_core.specs.Script.{script_rules}
use Rattle.exchange_engines.specs.PublishText.{items_of_lines, script_of, IsScriptSound}

-- before a step stands a control line with fewer than the most steps of a table
pub record StandsBeforeStep {A : Type 0} (before : List (ScriptItem A)) : Type 0 where
  pub setup : Setup A
  pub is_script : before ≡ script_of setup []
  pub has_room : length setup.table < most_steps

-- before a call stands a control line with steps that set up a publisher, and other calls
pub record StandsBeforeCall {A : Type 0} (before : List (ScriptItem A)) : Type 0 where
  pub setup : Setup A
  pub calls : List Call
  pub is_script : before ≡ script_of setup calls
  pub is_sound : IsScriptSound setup

-- what stands before an item of a script; nothing does before the control line
abbrev pub StandsBefore : {A : Type 0} → List (ScriptItem A) → ScriptItem A → Type 0
StandsBefore before (item.Control control first) = before ≡ []
StandsBefore before (item.Step s) = StandsBeforeStep before
StandsBefore before (item.Change moment t values) = StandsBeforeCall before
StandsBefore before (item.Poll moment) = StandsBeforeCall before

-- before each item of a script stands what must
abbrev pub ScriptsAreInOrder : Type 0 → Type 0
ScriptsAreInOrder A =
    (z : InputEnd) (text : List ℕ) (before more : List (ℕ × ScriptItem A)) (e : ℕ × ScriptItem A) →
    (listing (script_rules {A = A}) First z 0 text).items ≡ before ++ e ∷ more → StandsBefore (items_of_lines before) e.1

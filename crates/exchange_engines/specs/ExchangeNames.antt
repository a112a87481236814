-- The names of the reasons of a subscriber and of the causes of a script, as they are written.
use Rattle.std.specs.Prelude.{ℕ, List, codes}
use Rattle.subscribe_core.specs.declared.entry.Reason.{Reason}
use Rattle.subscribe_core.specs.declared.entry.Reason.TheVariants as reason
use Rattle.script_core.specs.declared.script.ScriptCause.{ScriptCause}
use Rattle.script_core.specs.declared.script.ScriptCause.TheVariants as script

-- the reason for which a frame of a block is refused
abbrev pub name_of_reason : Reason → List ℕ
name_of_reason reason.DatSet = codes "DatSet"
name_of_reason reason.GoId = codes "GoId"
name_of_reason reason.ConfRev = codes "ConfRev"
name_of_reason reason.Commissioning = codes "Commissioning"
name_of_reason reason.Simulated = codes "Simulated"
name_of_reason reason.Entries = codes "Entries"
name_of_reason reason.StateZero = codes "StateZero"
name_of_reason reason.LiveZero = codes "LiveZero"

-- the cause for which a line of a script is refused
abbrev pub name_of_script_cause : ScriptCause → List ℕ
name_of_script_cause script.ScriptForm = codes "ScriptForm"
name_of_script_cause script.FirstState = codes "FirstState"
name_of_script_cause script.StepTimes = codes "StepTimes"
name_of_script_cause script.StepCount = codes "StepCount"
name_of_script_cause script.Moment = codes "Moment"
name_of_script_cause script.Hex = codes "Hex"
name_of_script_cause (script.Members f) = codes "Members"
name_of_script_cause script.EntriesDiffer = codes "EntriesDiffer"
name_of_script_cause script.NotSpellable = codes "NotSpellable"
name_of_script_cause script.WouldNotFit = codes "WouldNotFit"

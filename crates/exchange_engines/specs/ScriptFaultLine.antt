-- How the text of `publish` ends by a fault of its script.
use Rattle.std.specs.Prelude.{ℕ, List, [], ◌++◌, codes}
use Rattle.std.specs.Fmt.{decimal}
use Rattle.list_core.specs.declared.line_rules.ItemFault.{ItemFault}
use Rattle.list_core.specs.declared.line_rules.ItemFault.TheVariants as fault
use Rattle.script_core.specs.declared.script.ScriptCause.{ScriptCause}
use Rattle.script_core.specs.declared.script.ScriptCause.TheVariants as cause
use Rattle.text_core.specs.Names.{name_of_cause, name_of_list_cause}
use Rattle.exchange_engines.specs.ExchangeNames.{name_of_script_cause}

-- the place and cause of a fault in the members, behind the name of the cause
abbrev pub cause_detail : ScriptCause → List ℕ
cause_detail (cause.Members f) = codes " " ++ decimal f.place ++ (codes " " ++ name_of_cause f.cause)
cause_detail cause.ScriptForm = []
cause_detail cause.FirstState = []
cause_detail cause.StepTimes = []
cause_detail cause.StepCount = []
cause_detail cause.Moment = []
cause_detail cause.Hex = []
cause_detail cause.EntriesDiffer = []
cause_detail cause.NotSpellable = []
cause_detail cause.WouldNotFit = []

-- the last line, a comment: the number of the bad line, and the cause
abbrev pub script_fault_line : ItemFault ScriptCause → List ℕ
script_fault_line (fault.Lines f) = codes "# " ++ decimal f.line ++ codes " script " ++ name_of_list_cause f.cause ++ codes "\n"
script_fault_line (fault.Line n why) = codes "# " ++ decimal n ++ codes " script " ++ (name_of_script_cause why ++ cause_detail why) ++ codes "\n"

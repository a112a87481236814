-- What a reader of events stands for, and its answers as its contracts see them.
use Rattle.std.specs.Prelude.{◌≡◌, ℕ, List, Option, Some, None, Result, Ok, Err}
use Rattle.list_core.specs.declared.device.InputEnd.{InputEnd}
use Rattle.list_core.specs.declared.event.Event.{Event}
use Rattle.list_core.specs.declared.event_lines.EventLines.{EventLines}
use Rattle.list_core.specs.declared.line_rules.ItemFault.{ItemFault}
use Rattle.list_core.specs.declared.line_rules.ItemFault.TheVariants as fault
use Rattle.list_core.specs.declared.list_fault.ListCause.{ListCause}
use Rattle.list_core.specs.declared.list_fault.ListFault.{ListFault}
use Rattle.list_core.specs.declared.list_reader.ListReader.{ListReader}
use Rattle.list_core.specs.declared.list_reader.ListError.{ListError}
use Rattle.list_core.specs.declared.list_reader.ListError.TheVariants as error
use Rattle.list_core.specs.ItemReader.{Answer, ReaderState, item_number, item_state}

-- the text that is being read, and what its lines settled
abbrev pub list_state : {R : Type 0} → (R → Option (List ℕ)) → (R → InputEnd) → ListReader R → ReaderState EventLines
list_state left ending r = item_state left ending r.items

-- the number of the line last answered or refused, 0 before the first
abbrev pub list_number : {R : Type 0} → ListReader R → ℕ
list_number r = item_number r.items

-- the fault of a list of events, whether its lines have it or what they say
abbrev pub list_fault_of : ItemFault ListCause → ListFault
list_fault_of (fault.Lines f) = f
list_fault_of (fault.Line n why) = record { line = n; cause = why }

-- how an answer is told
abbrev pub IsToldAs : {A : Type 0} → ℕ → Answer (Event A) ListCause → Result (Option (Event A)) ListError → Type 0
IsToldAs n (Ok None) result = result ≡ Ok None
IsToldAs n (Ok (Some e)) result = (e.0 ≡ n) × (result ≡ Ok (Some e.1))
IsToldAs n (Err (Some f)) result = result ≡ Err (error.Fault (list_fault_of f))
IsToldAs n (Err None) (Ok o) = ⊥
IsToldAs n (Err None) (Err (error.Fault f)) = ⊥
IsToldAs n (Err None) (Err (error.Memory e)) = Unit {0}

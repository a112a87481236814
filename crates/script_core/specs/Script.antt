-- A script of `publish` (profile): what a line of it says after the lines before it, and the rules by which it is read. The
-- control line comes first, then the lines of the steps, then changes and polls.
use Rattle.std.specs.Prelude.{◌≡◌, ◌⊎◌, ℕ, ◌==◌, true, List, [], ◌∷◌, Option, Some, None, Result, Ok, Err, if◌then◌else◌, ⊤, codes}
use Rattle.list_core.specs.Items.{Rules}
use Rattle.list_core.specs.declared.event_lines.MomentUnit.{MomentUnit}
use Rattle.list_core.specs.declared.event_lines.MomentUnit.TheVariants.{Milliseconds, Microseconds}
use Rattle.block_core.specs.BlockText.{texts_keep}
use Rattle.block_core.specs.Commas.{comma_fields}
use Rattle.script_core.specs.Lines.{IsLine}
use Rattle.script_core.specs.RefusedLines.{IsRefusedLine}
use Rattle.script_core.specs.computed.LineReading.{script_keeps, script_said}
use Rattle.script_core.specs.declared.script.ScriptCause.{ScriptCause}
use Rattle.script_core.specs.declared.script.ScriptCause.TheVariants as cause
use Rattle.script_core.specs.declared.script.ScriptItem.{ScriptItem}
use Rattle.script_core.specs.declared.script.ScriptItem.TheVariants as item
use Rattle.script_core.specs.declared.script.ScriptLines.{ScriptLines}
use Rattle.script_core.specs.declared.script.ScriptLines.TheVariants.{First, After}
use Rattle.script_core.specs.declared.script.ScriptPart.{ScriptPart}
use Rattle.script_core.specs.declared.script.ScriptPart.TheVariants as part

-- the unit of moments that the lines before have settled: milliseconds where there are none
abbrev pub unit_of : ScriptLines → MomentUnit
unit_of First = Milliseconds
unit_of (After unit p) = unit

-- the part whose lines may stand behind the lines before: the control line where there are none
abbrev pub part_of : ScriptLines → ScriptPart
part_of First = part.Control
part_of (After unit p) = p

-- the line `V2`, which may be the first
abbrev pub IsVersion : ScriptLines → List ℕ → Type 0
IsVersion First line = line ≡ codes "V2"
IsVersion (After unit p) line = ⊥

-- a line that is empty, or a comment: it begins with `#`
abbrev pub IsComment : List ℕ → Type 0
IsComment [] = ⊤
IsComment (x ∷ xs) = x ≡ 35

-- no comment: commas divide the line into this name and these fields behind it
pub record HasFields (line name : List ℕ) (fields : List (List ℕ)) : Type 0 where
  pub is_no_comment : ¬ IsComment line
  pub cut : comma_fields line ≡ name ∷ fields

-- A line that says nothing, and what is settled then: after `V2` moments are in microseconds; after a comment or an empty line the unit and the part are as before, and no `V2` may follow.
abbrev pub SaysNothing : ScriptLines → List ℕ → ScriptLines → Type 0
SaysNothing s line next = (IsVersion s line × (next ≡ After Microseconds part.Control)) ⊎ (IsComment line × (next ≡ After (unit_of s) (part_of s)))

-- a line that says an item, and what is settled then
pub record SaysItem {A : Type 0} (s : ScriptLines) (line : List ℕ) (x : ScriptItem A) (next : ScriptLines) : Type 0 where
  pub name : List ℕ
  pub fields : List (List ℕ)
  pub has_fields : HasFields line name fields
  pub following : ScriptPart
  pub is_line : IsLine (unit_of s) (part_of s) name fields x following
  pub settles : next ≡ After (unit_of s) following

-- a line that is refused, and why
pub record IsRefusedFor (A : Type 0) (s : ScriptLines) (line : List ℕ) (why : ScriptCause) : Type 0 where
  pub is_no_version : ¬ IsVersion s line
  pub name : List ℕ
  pub fields : List (List ℕ)
  pub has_fields : HasFields line name fields
  pub is_refused : IsRefusedLine A (unit_of s) (part_of s) name fields why

-- what a line says after the lines before it: nothing, an item, or why it is refused
abbrev pub LineSays : {A : Type 0} → ScriptLines → List ℕ → Result (Option (ScriptItem A) × ScriptLines) ScriptCause → Type 0
LineSays s line (Ok (None, next)) = SaysNothing s line next
LineSays s line (Ok (Some x, next)) = SaysItem s line x next
LineSays {A} s line (Err why) = IsRefusedFor A s line why

-- an item has something to keep in memory: a text of its control block that is not empty, or values of its change
abbrev pub NeedsMemory : {A : Type 0} → ScriptItem A → Type 0
NeedsMemory (item.Control control first) = texts_keep control.gocb_ref control.dat_set control.go_id ≡ true
NeedsMemory (item.Step s) = ⊥
NeedsMemory (item.Change moment t values) = ¬ (values ≡ [])
NeedsMemory (item.Poll moment) = ⊥

-- a line has something to keep in memory: it says an item that has
pub record LineNeedsMemory (A : Type 0) (s : ScriptLines) (line : List ℕ) : Type 0 where
  pub what : ScriptItem A
  pub next : ScriptLines
  pub says : SaysItem s line what next
  pub needs_memory : NeedsMemory what

-- what is missing where the script ends: the control line, or the first step
abbrev pub script_lacks : ScriptLines → Option ScriptCause
script_lacks First = Some cause.ScriptForm
script_lacks (After unit part.Control) = Some cause.ScriptForm
script_lacks (After unit (part.Steps n)) = if n == 0 then Some cause.StepCount else None
script_lacks (After unit part.Calls) = None

-- the rules of a script, of which laws say that a line is read as what it says, and has something to keep exactly where it says an item that has
abbrev pub script_rules : {A : Type 0} → Rules ScriptLines (ScriptItem A) ScriptCause
script_rules = record { said = script_said; keeps = script_keeps; lacks = script_lacks }

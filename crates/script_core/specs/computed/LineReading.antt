-- What a line of a script says as it is computed: by its name, its fields and the lines before it.
use Rattle.std.specs.Prelude.{◌≡◌, ℕ, ◌==◌, Bool, true, false, List, [], ◌∷◌, Option, None, Result, Ok, Err, if◌then◌else◌, codes}
use Rattle.std.specs.Str.{bytes_eq}
use Rattle.list_core.specs.EventLine.{is_version}
use Rattle.list_core.specs.declared.read_error.ReadError.{ReadError}
use Rattle.list_core.specs.declared.read_error.ReadError.TheVariants as read
use Rattle.list_core.specs.declared.event_lines.MomentUnit.{MomentUnit}
use Rattle.list_core.specs.declared.event_lines.MomentUnit.TheVariants.{Milliseconds, Microseconds}
use Rattle.block_core.specs.Commas.{comma_fields}
use Rattle.script_core.specs.declared.script.ScriptCause.{ScriptCause}
use Rattle.script_core.specs.declared.script.ScriptCause.TheVariants as cause
use Rattle.script_core.specs.declared.script.ScriptItem.{ScriptItem}
use Rattle.script_core.specs.declared.script.ScriptLines.{ScriptLines}
use Rattle.script_core.specs.declared.script.ScriptLines.TheVariants.{First, After}
use Rattle.script_core.specs.declared.script.ScriptPart.{ScriptPart}
use Rattle.script_core.specs.declared.script.ScriptPart.TheVariants as part
use Rattle.script_core.specs.computed.CallLine.{change_keeps, change_said, poll_said}
use Rattle.script_core.specs.computed.ControlLine.{control_keeps, control_of, control_said}
use Rattle.script_core.specs.computed.StepLine.{step_said, step_said_by}

-- what the fields of a line say, by the first of them
abbrev pub fields_said : {A : Type 0} → MomentUnit → ScriptPart → List ℕ → List (List ℕ) → Result (Option (ScriptItem A) × ScriptPart) ScriptCause
fields_said unit p name fields =
    if bytes_eq name (codes "control") then control_said p (control_of fields)
    else (if bytes_eq name (codes "step") then step_said p (step_said_by fields)
    else (if bytes_eq name (codes "change") then change_said unit p fields
    else (if bytes_eq name (codes "poll") then poll_said unit p fields else Err cause.ScriptForm)))

-- the same of all fields of a line
abbrev pub all_said : {A : Type 0} → MomentUnit → ScriptPart → List (List ℕ) → Result (Option (ScriptItem A) × ScriptPart) ScriptCause
all_said unit p [] = Err cause.ScriptForm
all_said unit p (name ∷ fields) = fields_said unit p name fields

-- what a line says: nothing where it is empty or begins with `#`
abbrev pub line_said : {A : Type 0} → MomentUnit → ScriptPart → List ℕ → Result (Option (ScriptItem A) × ScriptPart) ScriptCause
line_said unit p [] = Ok (None, p)
line_said unit p (x ∷ xs) = if x == 35 then Ok (None, p) else all_said unit p (comma_fields (x ∷ xs))

-- what a line says, after which moments have this unit
abbrev pub settled : {A : Type 0} → MomentUnit → Result (Option (ScriptItem A) × ScriptPart) ScriptCause → Result (Option (ScriptItem A) × ScriptLines) ScriptCause
settled unit (Ok (x, p)) = Ok (x, After unit p)
settled unit (Err why) = Err why

-- the first line settles the unit of moments: microseconds where it is `V2`, else milliseconds
abbrev pub script_said : {A : Type 0} → ScriptLines → List ℕ → Result (Option (ScriptItem A) × ScriptLines) ScriptCause
script_said First line = if is_version line then Ok (None, After Microseconds part.Control) else settled Milliseconds (line_said Milliseconds part.Control line)
script_said (After unit p) line = settled unit (line_said unit p line)

-- ---- what has something to keep in memory: a good control line with a text, and a good change with members

-- whether the fields of a line have something to keep, by the first of them
abbrev pub part_keeps : MomentUnit → ScriptPart → List ℕ → List (List ℕ) → Bool
part_keeps unit p name fields =
    if bytes_eq name (codes "control") then control_keeps p (control_of fields)
    else (if bytes_eq name (codes "change") then change_keeps unit p fields else false)

-- the same of all fields of a line
abbrev pub all_keep : MomentUnit → ScriptPart → List (List ℕ) → Bool
all_keep unit p [] = false
all_keep unit p (name ∷ fields) = part_keeps unit p name fields

-- whether a line has something to keep: none that is empty or begins with `#`
abbrev pub line_keeps : MomentUnit → ScriptPart → List ℕ → Bool
line_keeps unit p [] = false
line_keeps unit p (x ∷ xs) = if x == 35 then false else all_keep unit p (comma_fields (x ∷ xs))

-- whether a line of a script has something to keep, by what the lines before it settled
abbrev pub script_keeps : ScriptLines → List ℕ → Bool
script_keeps First line = line_keeps Milliseconds part.Control line
script_keeps (After unit p) line = line_keeps unit p line

-- the answer is what the line says, or memory was wanted where the line has something to keep
abbrev pub AnswersScriptLine : {X : Type 0} → Result X (ReadError ScriptCause) → Result X ScriptCause → Bool → Type 0
AnswersScriptLine (Ok x) said keeps = said ≡ Ok x
AnswersScriptLine (Err (read.Fault why)) said keeps = said ≡ Err why
AnswersScriptLine (Err (read.Memory e)) said keeps = keeps ≡ true

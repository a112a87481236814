-- What the definitions say together.
use Rattle.std.specs.Prelude.{◌≡◌, ℕ, ◌↔◌, true, List, Option, Some, Result, Ok, Err}
use Rattle.list_core.specs.declared.event_lines.MomentUnit.{MomentUnit}
use Rattle.script_core.specs.Lines.{IsLine}
use Rattle.script_core.specs.RefusedLines.{IsRefusedLine}
use Rattle.script_core.specs.Script.{LineNeedsMemory, LineSays}
use Rattle.script_core.specs.computed.LineReading.{fields_said, script_keeps, script_said}
use Rattle.script_core.specs.declared.script.ScriptCause.{ScriptCause}
use Rattle.script_core.specs.declared.script.ScriptItem.{ScriptItem}
use Rattle.script_core.specs.declared.script.ScriptLines.{ScriptLines}
use Rattle.script_core.specs.declared.script.ScriptPart.{ScriptPart}

-- a name and fields are taken for an item exactly where they say that, by the relation of its kind
abbrev pub LinesSayItems : Type 0 → Type 0
LinesSayItems A =
    (unit : MomentUnit) (p next : ScriptPart) (name : List ℕ) (fields : List (List ℕ)) (x : ScriptItem A) →
    (fields_said unit p name fields ≡ Ok (Some x, next)) ↔ IsLine unit p name fields x next

-- a name and fields are refused for a cause exactly where they have it, by the relation of that cause
abbrev pub LinesAreRefused : Type 0 → Type 0
LinesAreRefused A =
    (unit : MomentUnit) (p : ScriptPart) (name : List ℕ) (fields : List (List ℕ)) (why : ScriptCause) →
    (fields_said {A = A} unit p name fields ≡ Err why) ↔ IsRefusedLine A unit p name fields why

-- the rules of a script answer for a line exactly what it says after the lines before it
abbrev pub LinesAreRead : Type 0 → Type 0
LinesAreRead A =
    (s : ScriptLines) (line : List ℕ) (answer : Result (Option (ScriptItem A) × ScriptLines) ScriptCause) →
    (script_said s line ≡ answer) ↔ LineSays s line answer

-- by the rules of a script a line has something to keep exactly where it says an item that has
abbrev pub LinesAreKept : Type 0 → Type 0
LinesAreKept A = (s : ScriptLines) (line : List ℕ) → (script_keeps s line ≡ true) ↔ LineNeedsMemory A s line

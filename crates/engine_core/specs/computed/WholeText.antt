-- The text of a whole list as it is computed, item by item.
use Rattle.std.specs.Prelude.{ℕ, ◌||◌, Bool, false, List, [], ◌∷◌, ◌++◌, Result, Ok, Err}
use Rattle.list_core.specs.declared.line_rules.ItemFault.{ItemFault}
use Rattle.list_core.specs.declared.line_rules.ItemFault.TheVariants as fault
use Rattle.list_core.specs.Lines.{Stop, faulty}
use Rattle.list_core.specs.Items.{Listing}
use Rattle.engine_core.specs.EngineText.{Text, last_text}

-- what is written of some items, whether one of them is a finding, and how they stop
pub record Account (C : Type 0) : Type 0 where
  pub text : List ℕ
  pub found : Bool
  pub stop : Stop (ItemFault C)

-- no item before this stop
abbrev pub told_stop : {X C : Type 0} → Text X C → Stop (ItemFault C) → Account C
told_stop t stop = record { text = last_text t stop; found = false; stop = stop }

-- an item of the line n before the others; one that is refused ends the text by the fault of its line
abbrev pub put_step : {X C : Type 0} → Text X C → ℕ → Result (List ℕ × Bool) C → Account C → Account C
put_step t n (Ok s) rest = record { text = s.0 ++ rest.text; found = s.1 || rest.found; stop = rest.stop }
put_step t n (Err why) rest = told_stop t (faulty (fault.Line n why))

-- what is told of items that follow others
unfoldable pub told_after : {X C : Type 0} → Text X C → List (ℕ × X) → List (ℕ × X) → Stop (ItemFault C) → Account C
told_after t before [] stop = told_stop t stop
told_after t before (e ∷ es) stop = put_step t e.0 (t.of_item before e) (told_after t (before ++ e ∷ []) es stop)

-- what is told of the rest of a list, after these items
abbrev pub told_rest : {X C : Type 0} → Text X C → List (ℕ × X) → Listing X C → Account C
told_rest t before l = told_after t before l.items l.stop

-- what is told of a whole list
abbrev pub told : {X C : Type 0} → Text X C → Listing X C → Account C
told t l = told_rest t [] l

-- the whole text
abbrev pub whole_text : {X C : Type 0} → Text X C → Listing X C → List ℕ
whole_text t l = t.first ++ (told t l).text

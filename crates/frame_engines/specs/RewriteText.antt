-- The text of `rewrite`: the list again, each grammatical frame in its written form.
use Rattle.std.specs.Prelude.{ℕ, List, ◌++◌, Bool, false, not, Option, Some, None, is_some, Ok, codes}
use Rattle.list_core.specs.declared.event.Event.{Event}
use Rattle.list_core.specs.declared.list_fault.ListCause.{ListCause}
use Rattle.list_core.specs.ListReader.{list_fault_of}
use Rattle.std.specs.Fmt.{decimal}
use Rattle.list_core.specs.declared.event.EventKind.{EventKind}
use Rattle.list_core.specs.declared.event.EventKind.TheVariants.{Frame, Clock, Mode}
use Rattle.list_core.specs.EventText.{kind_text}
use Rattle.text_core.specs.LineText.{list_fault_line}
use Rattle.frame_engines.specs.WrittenForm.{written_form}
use Rattle.engine_core.specs.EngineText.{Text}

-- the written form, or else the octets
abbrev pub form_or : Option (List ℕ) → List ℕ → List ℕ
form_or (Some form) octets = form
form_or None octets = octets

-- a frame in its written form; one that is faulty, or whose written form does not fit, as it is
abbrev pub rewritten : {A : Type 0} → EventKind A → EventKind A
rewritten Clock = Clock
rewritten (Mode on) = Mode on
rewritten (Frame octets) = Frame (form_or (written_form octets) octets)

-- whether a frame keeps its own octets
abbrev pub is_kept : {A : Type 0} → EventKind A → Bool
is_kept Clock = false
is_kept (Mode on) = false
is_kept (Frame octets) = not (is_some (written_form octets))

-- the text of `rewrite`, in which a frame that keeps its own octets is a finding
abbrev pub rewrite_text : {A : Type 0} → Text (Event A) ListCause
rewrite_text = record {
  first = codes "V2\n";
  of_item = λ before e. Ok (kind_text (decimal e.1.moment) (rewritten e.1.kind), is_kept e.1.kind);
  last = λ f. codes "# " ++ list_fault_line (list_fault_of f);
}

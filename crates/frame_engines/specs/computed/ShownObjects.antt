-- Something is written of each event as an object.
use Rattle.std.specs.Prelude.{◌≡◌, ℕ, List, [], ◌∷◌, Result, Ok, Err}
use Rattle.std.proofs.Common.{sym, ◌∙◌}
use Rattle.ber_core.specs.declared.fault.Fault.{Fault}
use Rattle.list_core.specs.declared.event.EventKind.{EventKind}
use Rattle.list_core.specs.declared.event.EventKind.TheVariants as kind
use Rattle.frame_core.specs.declared.frame.Frame as frames
use Rattle.frame_core.specs.computed.FrameReading.{frame_at}
use Rattle.object_core.specs.declared.counted.Counted.{Counted}
use Rattle.object_core.specs.declared.counted.Form.{Form}
use Rattle.object_core.specs.declared.counted.Form.TheVariants.{Text, Object}
use Rattle.engine_core.specs.EventsText.{AgreesOnNothing}
use Rattle.engine_core.proofs.EventSteps.{exactly_agrees}
use Rattle.frame_engines.specs.ShowObject.{IsAnswerObject, IsKindObject, show_allows}
use Rattle.frame_engines.specs.ShowText.{show_event}

-- what begins with a brace is not empty
object_there : {rest : List ℕ} (text : List ℕ) → text ≡ 123 ∷ rest → text ≡ [] → ⊥
object_there text is none = let empty = sym is ∙ none in cc

answer_object_there : {A : Type 0} (counted : Counted) (n moment : ℕ) (r : Result (frames.Frame A) Fault) (text : List ℕ) → IsAnswerObject counted n moment r text → text ≡ [] → ⊥
answer_object_there counted n moment (Ok f) text is = object_there text is.2
answer_object_there counted n moment (Err f) text is = object_there text is

pub kind_object_there : {A : Type 0} (counted : Counted) (n moment : ℕ) (k : EventKind A) (text : List ℕ) → IsKindObject counted n moment k text → text ≡ [] → ⊥
kind_object_there counted n moment kind.Clock text is = object_there text is
kind_object_there counted n moment (kind.Frame octets) text is = answer_object_there {A = Unit {0}} counted n moment (frame_at octets) text is
kind_object_there counted n moment (kind.Mode on) text is = object_there text is

-- so in each form nothing is written of an event in each case, or in none
pub shown_agrees : {A : Type 0} (form : Form) → AgreesOnNothing (show_allows {A = A} form)
shown_agrees Text before e written same is too none = exactly_agrees show_event before e written same is too none
shown_agrees (Object counted) before e written same is too none = absurd (kind_object_there counted e.0 e.1.moment e.1.kind written.0 is.0 none)

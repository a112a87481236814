-- Each event has a line.
use Rattle.std.proofs.Common.{ℕ, Bool, false, List, Result, Ok, Err, ap, refl, sym}
use Rattle.std.specs.Fmt.{decimal}
use Rattle.ber_core.specs.declared.fault.Fault.{Fault}
use Rattle.list_core.specs.declared.event.EventKind.{EventKind}
use Rattle.list_core.specs.declared.event.EventKind.TheVariants as kind
use Rattle.list_core.proofs.Emptiness.{back_nil, front_nil}
use Rattle.frame_core.specs.declared.frame.Apdu.{Apdu}
use Rattle.frame_core.specs.declared.frame.Apdu.TheVariants as apdu
use Rattle.frame_core.specs.declared.frame.Frame as frames
use Rattle.frame_core.specs.computed.FrameReading.{frame_at}
use Rattle.text_core.proofs.NonEmpty.{IsThere, ends, fault_there}
use Rattle.frame_engines.specs.FrameText.{apdu_word}
use Rattle.list_core.specs.declared.event.Event.{Event}
use Rattle.engine_core.proofs.EventSteps.{wanted_exactly}
use Rattle.object_core.specs.declared.counted.Form.{Form}
use Rattle.object_core.specs.declared.counted.Form.TheVariants.{Text, Object}
use Rattle.frame_engines.specs.ShowObject.{show_allows}
use Rattle.frame_engines.specs.computed.ShownObjects.{kind_object_there}
use Rattle.frame_engines.specs.ShowText.{answer_line, kind_line, show_event}
use Rattle.frame_engines.specs.computed.InForm.{IsKindIn}

word_there : {A : Type 0} (a : Apdu A) → IsThere (apdu_word a)
word_there (apdu.Goose p) e = cc
word_there (apdu.Sampled p) e = cc

answer_there : {A : Type 0} (n : ℕ) (r : Result (frames.Frame A) Fault) → IsThere (answer_line n r)
answer_there n (Ok f) e = word_there f.apdu (front_nil (apdu_word f.apdu) _ (back_nil (decimal n) _ e))
answer_there n (Err f) e = fault_there n f e

pub kind_there : {A : Type 0} (n moment : ℕ) (k : EventKind A) → IsThere (kind_line n moment k)
kind_there n moment kind.Clock e = ends _ e
kind_there n moment (kind.Frame octets) e = answer_there {A = Unit {0}} n (frame_at octets) e
kind_there n moment (kind.Mode on) e = ends _ e

-- what is shown in a form may be written
pub shown_allowed : {A : Type 0} (form : Form) (before : List (ℕ × Event A)) (n : ℕ) (e : Event A) (text : List ℕ) → IsKindIn form n e.moment e.kind text → show_allows form before (n, e) (text, false)
shown_allowed Text before n e text is = ap (λ (t : List ℕ). (t, false)) (sym is)
shown_allowed (Object counted) before n e text is = (is, refl)

-- whatever may be written is not empty
pub shown_there : {A : Type 0} (form : Form) (before : List (ℕ × Event A)) (n : ℕ) (e : Event A) (written : List ℕ × Bool) → show_allows form before (n, e) written → IsThere written.0
shown_there Text before n e written is none = wanted_exactly show_event before (n, e) (kind_there n e.moment e.kind) written is none
shown_there (Object counted) before n e written is none = kind_object_there counted n e.moment e.kind written.0 is.0 none

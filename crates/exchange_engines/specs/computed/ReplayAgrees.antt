-- What is written of an event is nothing only where it has no entry.
use Rattle.std.proofs.Common.{◌≡◌, ℕ, Bool, List, [], ◌∷◌, ◌++◌, false, ap, append_assoc, refl, subst, sym, ◌∙◌}
use Rattle.std.specs.Prelude.{codes}
use Rattle.std.specs.Fmt.{decimal}
use Rattle.list_core.proofs.Emptiness.{front_nil}
use Rattle.list_core.specs.declared.event.Event.{Event}
use Rattle.block_core.specs.declared.block.Block.{Block}
use Rattle.subscribe_core.specs.declared.entry.Entry.{Entry}
use Rattle.subscribe_core.specs.declared.entry.Entry.TheVariants as says
use Rattle.text_core.proofs.NonEmpty.{ends, fault_there}
use Rattle.object_core.specs.declared.counted.Counted.{Counted}
use Rattle.object_core.specs.declared.counted.Form.{Form}
use Rattle.object_core.specs.declared.counted.Form.TheVariants as forms
use Rattle.object_core.specs.EventObject.{event_fields, fault_fields}
use Rattle.object_core.specs.Objects.{Field, in_quotes, object, object_line}
use Rattle.engine_core.specs.EventsText.{AgreesOnNothing}
use Rattle.exchange_engines.specs.EntryObject.{AreEntryObjects, IsEntryObject, act_fields, entry_fields, pair_fields}
use Rattle.exchange_engines.specs.EntryText.{entry_line, entry_lines}
use Rattle.exchange_engines.specs.ExchangeNames.{name_of_reason}
use Rattle.exchange_engines.specs.declared.engines.replay.ReplayManner.{ReplayManner}
use Rattle.exchange_engines.specs.ReplayText.{Says, entries_in}
use Rattle.exchange_engines.specs.computed.ReplayStep.{IsSaid, replay_allows, replay_tells}

-- a line is not empty
line_there : {A : Type 0} (n : ℕ) (x : Entry A) → entry_line n x ≡ [] → ⊥
line_there n (says.Expired block) e = ends _ e
line_there n (says.Switched block) e = ends _ e
line_there n (says.Act block state sequence t members) e = ends _ e
line_there n (says.Refreshed block state sequence) e = ends _ e
line_there n (says.Repeated block state sequence) e = ends _ e
line_there n (says.Older block state sequence) e = ends _ e
line_there n (says.Refused block reason) e = ends _ e
line_there n says.NotSubscribed e = ends (decimal n ++ codes " not-subscribed") (append_assoc (decimal n) (codes " not-subscribed") (codes "\n") ∙ e)
line_there n says.Sampled e = ends (decimal n ++ codes " sampled") (append_assoc (decimal n) (codes " sampled") (codes "\n") ∙ e)
line_there n (says.Faulty f) e = fault_there n f e

-- no line is written only where there is no entry
no_entry : {A : Type 0} (n : ℕ) (entries : List (Entry A)) → entry_lines n entries ≡ [] → entries ≡ []
no_entry n [] e = refl
no_entry n (x ∷ entries) e = absurd (line_there n x (front_nil (entry_line n x) _ e))

-- an object is not empty
object_is : (fields : List Field) (text : List ℕ) → text ≡ object_line fields → text ≡ [] → ⊥
object_is fields text is none = ends (object fields) (sym is ∙ none)

module _ {A : Type 0} (counted : Counted) (blocks : List (Block A)) (n moment : ℕ) where
  entry_there : (x : Entry A) (text : List ℕ) → IsEntryObject counted blocks n moment x text → text ≡ [] → ⊥
  entry_there (says.Expired b) text is none = object_is (entry_fields counted blocks n moment (codes "expired") b) text is none
  entry_there (says.Switched b) text is none = object_is (entry_fields counted blocks n moment (codes "switched") b) text is none
  entry_there (says.Act b state sequence t members) text is none =
      object_is (entry_fields counted blocks n moment (codes "act") b ++ act_fields moment state sequence t is.0) text is.2 none
  entry_there (says.Refreshed b state sequence) text is none = object_is (entry_fields counted blocks n moment (codes "refreshed") b ++ pair_fields state sequence) text is none
  entry_there (says.Repeated b state sequence) text is none = object_is (entry_fields counted blocks n moment (codes "repeated") b ++ pair_fields state sequence) text is none
  entry_there (says.Older b state sequence) text is none = object_is (entry_fields counted blocks n moment (codes "old") b ++ pair_fields state sequence) text is none
  entry_there (says.Refused b reason) text is none = object_is (entry_fields counted blocks n moment (codes "refused") b ++ (codes "reason", in_quotes (name_of_reason reason)) ∷ []) text is none
  entry_there says.NotSubscribed text is none = object_is (event_fields counted n moment (codes "not-subscribed")) text is none
  entry_there says.Sampled text is none = object_is (event_fields counted n moment (codes "sampled")) text is none
  entry_there (says.Faulty f) text is none = object_is (event_fields counted n moment (codes "fault") ++ fault_fields f) text is none

  no_object : (entries : List (Entry A)) (text : List ℕ) → AreEntryObjects counted blocks n moment entries text → text ≡ [] → entries ≡ []
  no_object [] text is none = refl
  no_object (x ∷ entries) text is none = absurd (entry_there x is.0 is.2 (front_nil is.0 is.1 (sym is.4 ∙ none)))

module _ {A : Type 0} (blocks : List (Block A)) (said : Says A) (before : List (ℕ × Event A)) (e : ℕ × Event A) where
  -- where nothing is written, there is no entry
  pub none_said : (form : Form) (written : List ℕ × Bool) → entries_in blocks said form before e written → written.0 ≡ [] → said before e ≡ []
  none_said forms.Text written is none = no_entry e.0 (said before e) (ap (λ (w : List ℕ × Bool). w.0) is ∙ none)
  none_said (forms.Object counted) written is none = no_object counted blocks e.0 e.1.moment (said before e) written.0 is.0 none

  -- of no entry nothing is written
  nothing_said : (form : Form) (written : List ℕ × Bool) → entries_in blocks said form before e written → said before e ≡ [] → written.0 ≡ []
  nothing_said forms.Text written is none = sym (ap (λ (w : List ℕ × Bool). w.0) is) ∙ ap (λ (es : List (Entry A)). entry_lines e.0 es) none
  nothing_said (forms.Object counted) written is none = subst (λ (es : List (Entry A)). AreEntryObjects counted blocks e.0 e.1.moment es written.0) none is.0

  -- a text of the entries may be written
  pub said_allowed : (form : Form) (text : List ℕ) → IsSaid form e.0 e.1.moment blocks (said before e) text → entries_in blocks said form before e (text, false)
  said_allowed forms.Text text is = ap (λ (l : List ℕ). (l, false)) (sym is)
  said_allowed (forms.Object counted) text is = (is, refl)

pub replay_agrees : {A : Type 0} (manner : ReplayManner) (blocks : List (Block A)) (form : Form) → AgreesOnNothing (replay_allows manner blocks form)
replay_agrees manner blocks form before e written other is too none =
    nothing_said blocks (replay_tells manner blocks) before e form other too (none_said blocks (replay_tells manner blocks) before e form written is none)

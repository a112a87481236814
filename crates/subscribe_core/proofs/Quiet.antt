-- Where there is no entry.
use Rattle.std.proofs.Common.{◌≡◌, ℕ, List, [], ◌∷◌, ◌++◌, length}
use Rattle.frame_core.specs.computed.FrameReading.{frame_at}
use Rattle.list_core.specs.declared.event.Event.{Event}
use Rattle.list_core.specs.declared.event.EventKind.{EventKind}
use Rattle.list_core.specs.declared.event.EventKind.TheVariants as kinds
use Rattle.frame_core.specs.declared.frame.Apdu.{Apdu}
use Rattle.frame_core.specs.declared.frame.Apdu.TheVariants as apdus
use Rattle.frame_core.specs.declared.frame.Frame.{Frame}
use Rattle.ber_core.specs.declared.fault.Fault.{Fault}
use Rattle.std.specs.Prelude.{Bool, Result, Ok, Err}
use Rattle.block_core.specs.declared.block.Block.{Block}
use Rattle.subscribe_core.specs.declared.registers.Register.{Register}
use Rattle.subscribe_core.specs.computed.Content.{content_by, content_of, content_with, reading_of}
use Rattle.subscribe_core.specs.Entries.{AreEntriesAt}
use Rattle.subscribe_core.specs.computed.PrivateCalls.{IsFrame}
use Rattle.subscribe_core.specs.Apart.{AreApart}
use Rattle.subscribe_core.specs.State.{State, StandsAfter}
use Rattle.subscribe_core.specs.computed.Steps.{said_of, step_entries}
use Rattle.list_core.proofs.Emptiness.{back_nil}
use Rattle.subscribe_core.proofs.Readings.{is_read}
use Rattle.subscribe_core.proofs.Runs.{entries_are_one, entries_step}

-- a frame always has an entry

said_with : {A : Type 0} (now : ℕ) (mode : Bool) (xs : List (Block A)) (rs : List Register) (id : ℕ) (a : Apdu (Unit {0})) → said_of now mode xs rs (content_with id a) ≡ [] → ⊥
said_with now mode xs rs id (apdus.Goose p) e = cc
said_with now mode xs rs id (apdus.Sampled p) e = cc

said_by : {A : Type 0} (now : ℕ) (mode : Bool) (xs : List (Block A)) (rs : List Register) (r : Result (Frame (Unit {0})) Fault) → said_of now mode xs rs (content_by r) ≡ [] → ⊥
said_by now mode xs rs (Ok f) e = said_with now mode xs rs f.app_id f.apdu e
said_by now mode xs rs (Err fault) e = cc

said_frame : {A : Type 0} (now : ℕ) (mode : Bool) (xs : List (Block A)) (rs : List Register) (k : EventKind A) → IsFrame k → said_of now mode xs rs (content_of k) ≡ [] → ⊥
said_frame now mode xs rs (kinds.Frame o) w e = said_by now mode xs rs (frame_at o) e
said_frame now mode xs rs kinds.Clock w e = w
said_frame now mode xs rs (kinds.Mode on) w e = w

-- where a step gives no entry, the event is no frame
pub no_frame : {A : Type 0} (s : State A) (e : Event A) → step_entries s (reading_of e) ≡ [] → IsFrame e.kind → ⊥
no_frame s e none frame = said_frame _ s.mode s.blocks s.registers e.kind frame (back_nil _ _ (back_nil _ _ none))

-- where the list has no entry at an event, the step gives none
pub quiet_step : {A : Type 0} (events : List (Event A)) (e : Event A) (s : State A) → AreApart s.blocks → StandsAfter events s
    → AreEntriesAt s.blocks (events ++ e ∷ []) (length events) [] → step_entries s (reading_of e) ≡ []
quiet_step events e s apart stands none =
    entries_are_one s.blocks (events ++ e ∷ []) (length events) (step_entries s (reading_of e)) [] apart (entries_step events e (reading_of e) s (is_read e) stands) none

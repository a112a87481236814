-- A run of `losses` in the words of the definitions: what it writes, and for what it may want memory.
use Rattle.std.specs.Prelude.{◌≡◌, ◌≤◌, ◌⊎◌, ℕ, List, [], Option, Some, None, Ok, Err, length, take, slice_get}
use Rattle.list_core.specs.declared.device.InputEnd.{InputEnd}
use Rattle.list_core.specs.declared.device.InputEnd.TheVariants.{Open}
use Rattle.list_core.specs.declared.event.Event.{Event}
use Rattle.list_core.specs.Items.{Numbered, put_item, put_items}
use Rattle.list_core.specs.ReadItems.{AnswerOf}
use Rattle.engine_core.specs.declared.ending.Ending.{Ending}
use Rattle.engine_core.specs.declared.style.Style.{Style}
use Rattle.engine_core.specs.EngineText.{ItemText, TextTo, exactly}
use Rattle.engine_core.specs.EventsText.{line_in}
use Rattle.engine_core.specs.Input.{Input, IsRead, TellsNext}
use Rattle.engine_core.specs.RunOver.{FailsBefore, IsUntouched, Leaves, Run}
use Rattle.loss_core.specs.Periods.{ArePeriods, Period}
use Rattle.loss_engine.specs.LossText.{AreLosses, Manner, ShowsNew, TellsEvent, losses_text}

-- each piece is written as it is, and the fault of the input by its line in a style
abbrev pub written_pieces : {C F : Type 0} → Manner F → TextTo ItemText C F
written_pieces how = record { first = []; of_item = λ before e. Ok (e.1.text, e.1.is_finding); last = λ f. line_in how.style (how.last.line f) (how.last.object f) }

-- the pieces of events: one for each, with its number
pub record ArePiecesOf {A : Type 0} (periods : List Period) (style : Style) (events : List (ℕ × Event A)) (pieces : List (ℕ × ItemText)) : Type 0 where
  pub sizes : length pieces ≡ length events
  pub each : (i : ℕ) (e : ℕ × Event A) (w : ℕ × ItemText) → slice_get events i ≡ Some e → slice_get pieces i ≡ Some w → (w.0 ≡ e.0) × TellsEvent periods style (take i events) e w.1

-- Behind these pieces memory is wanted: by the input, to keep something behind their events; for a sender or a stream of the next event that is new; or for the text of the next piece.
pub data LossWants {A F : Type 0} (periods : List Period) (style : Style) (Keeps : List (ℕ × Event A) → Type 0) (said : Numbered (Event A) F) (pieces : Numbered ItemText F) (written : List (ℕ × ItemText)) : Type 0 where
  for_input : ArePiecesOf periods style (take (length written) said.items) written → Keeps (take (length written) said.items) → LossWants periods style Keeps said pieces written
  for_new : (next : ℕ × Event A) → slice_get said.items (length written) ≡ Some next → ArePiecesOf periods style (take (length written) said.items) written → ShowsNew (take (length written) said.items) next →
      LossWants periods style Keeps said pieces written
  for_text : (next : ℕ × ItemText) (others : Numbered ItemText F) → pieces ≡ put_items written (put_item next others) → (next.1.text ≡ [] → ⊥) → LossWants periods style Keeps said pieces written

-- Behind these pieces no more of an input of events was read than the next answer needs: they are of as many events, behind which it was read for this answer; or it has ended, and further ones are those at its end.
pub record StandsBehind {A C F : Type 0} (input : Input (Event A) C F) (z : InputEnd) (read : List ℕ) (written : List (ℕ × ItemText)) : Type 0 where
  pub events : List (ℕ × Event A)
  pub answer : AnswerOf (Event A) F
  pub is_read : IsRead input z read events answer
  pub of_events : (length events ≡ length written) ⊎ ((answer ≡ Ok None) × (length events ≤ length written))

-- These pieces were given, and then this answer: so it is told of the input, which was read no further than the answer needs. Memory is wanted only for this.
pub record ArePiecesRead {A C F : Type 0} (input : Input (Event A) C F) (z : InputEnd) (read : List ℕ) (pieces : Numbered ItemText F)
    (Wants : List (ℕ × ItemText) → Type 0) (written : List (ℕ × ItemText)) (answer : AnswerOf ItemText F) : Type 0 where
  pub onward : Numbered ItemText F
  pub says : pieces ≡ put_items written onward
  pub tells : TellsNext answer onward
  pub stands : StandsBehind input z read written
  pub wants : answer ≡ Err None → Wants written

-- what an input has to keep behind these events
abbrev pub KeepsBehind : {A C F : Type 0} → Input (Event A) C F → InputEnd → List ℕ → List (ℕ × Event A) → Type 0
KeepsBehind input z read events = input.stands z read events (Err None)

-- A run writes, piece by piece, what is told of an input; where it ends for want of memory, this is wanted so.
pub record WritesLosses {A C F : Type 0} (how : Manner F) (input : Input (Event A) C F) (ending : Ending) (fault : Option F) (z : InputEnd) (read : List ℕ) (old new : Option (List ℕ)) : Type 0 where
  pub pieces : Numbered ItemText F
  pub are : AreLosses how.periods how.style (input.says z read) pieces
  pub run : Run (ArePiecesRead input z read pieces (LossWants how.periods how.style (KeepsBehind input z read) (input.says z read) pieces)) input.faults (exactly (written_pieces how)) ending fault old new

-- what a run leaves of this input that tells losses in a manner, it writes piece by piece, where it began
abbrev pub LossesAreTold : {A C F : Type 0} → Input (Event A) C F → Type 0
LossesAreTold {C = C} {F = F} input =
    (how : Manner F) (ending : Ending) (fault : Option F) (z : InputEnd) (read : List ℕ) (old new : Option (List ℕ)) → ArePeriods how.periods → Leaves input (losses_text how) ending fault z read old new →
    FailsBefore (IsUntouched Open z read) (exactly (written_pieces {C = C} how)) ending fault old new ⊎ WritesLosses how input ending fault z read old new

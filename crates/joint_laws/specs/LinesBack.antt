-- That the lines of text are had back from the objects: nothing that a text says is lost.
use Rattle.std.specs.Prelude.{◌≡◌, ◌<◌, ℕ, Bool, List, [], ◌++◌, Some, length, slice_get}
use Rattle.std.specs.List.{AllByRecursion}
use Rattle.list_core.specs.declared.event.Event.{Event}
use Rattle.list_core.specs.Items.{Numbered}
use Rattle.list_core.specs.declared.list_fault.ListFault.{ListFault}
use Rattle.capture_core.specs.declared.capture_fault.CaptureFault.{CaptureFault}
use Rattle.block_core.specs.declared.block.Block.{Block}
use Rattle.text_core.specs.LineText.{capture_line, list_fault_line}
use Rattle.object_core.specs.declared.counted.Counted.{Counted}
use Rattle.object_core.specs.declared.counted.Form.{Form}
use Rattle.object_core.specs.declared.counted.Form.TheVariants.{Object, Text}
use Rattle.object_core.specs.EventObject.{capture_fault_object, list_fault_object}
use Rattle.engine_core.specs.declared.style.Style.TheVariants.{Lines}
use Rattle.engine_core.specs.EngineText.{AreAllowedTexts, ItemText, has_finding, joined_texts}
use Rattle.engine_core.specs.EventsText.{EventAllows, EventText, exactly_each, fault_text, over_in}
use Rattle.frame_engines.specs.CheckObject.{check_event_in}
use Rattle.frame_engines.specs.ShowObject.{show_allows}
use Rattle.exchange_engines.specs.EntryObject.{twice_object}
use Rattle.exchange_engines.specs.declared.engines.replay.ReplayManner.{ReplayManner}
use Rattle.exchange_engines.specs.ReplayText.{AreTold, Says, entries_in, twice_line}
use Rattle.exchange_engines.specs.WatchText.{AreWatchTexts}
use Rattle.inventory_engine.specs.BlocksText.{AreBlocksTexts}
use Rattle.loss_core.specs.Periods.{ArePeriods, Period}
use Rattle.loss_engine.specs.LossText.{AreLosses}
use Rattle.joint_laws.specs.Given.{AreGivenBlocks, IsGiven, IsWide}
use Rattle.joint_laws.specs.JsonLines.{written_of}

-- a function gives these lines of these objects, whatever text follows them
abbrev pub Gives : (List ℕ → List ℕ) → List ℕ → List ℕ → Type 0
Gives back objects lines = (rest : List ℕ) → back (objects ++ rest) ≡ lines ++ back rest

-- of what is written of an event as objects, whichever of those that are allowed, it gives what is written of it as lines; and the event is a finding in both
abbrev pub GivesEvents : {A : Type 0} → (List ℕ → List ℕ) → (Form → EventAllows A) → Type 0
GivesEvents {A} back allows =
    (counted : Counted) (before : List (ℕ × Event A)) (e : ℕ × Event A) (objects lines : List ℕ × Bool) →
    IsGiven e → allows (Object counted) before e objects → allows Text before e lines → Gives back objects.0 lines.0 × (objects.1 ≡ lines.1)

-- and so of what a run wrote of all its events, some of which are findings in both
abbrev pub GivesRuns : {A : Type 0} (C F : Type 0) → (List ℕ → List ℕ) → (Form → EventAllows A) → Type 0
GivesRuns {A} C F back allows =
    (counted : Counted) (last_line last_object : F → List ℕ) (items : List (ℕ × Event A)) (objects lines : List ItemText) → AllByRecursion IsGiven items →
    AreAllowedTexts (over_in {C = C} (Lines (Object counted)) allows (fault_text last_line last_object)) items objects →
    AreAllowedTexts (over_in {C = C} (Lines Text) allows (fault_text last_line last_object)) items lines →
    Gives back (joined_texts objects) (joined_texts lines) × (has_finding objects ≡ has_finding lines)

-- both
pub record GivesLines {A : Type 0} (C F : Type 0) (back : List ℕ → List ℕ) (allows : Form → EventAllows A) : Type 0 where
  pub of_event : GivesEvents back allows
  pub of_run : GivesRuns C F back allows

-- of each of these texts of objects it gives the text of lines in its place, and so of all of them together; the same are findings
pub record GivesTexts (back : List ℕ → List ℕ) (objects lines : List ItemText) : Type 0 where
  pub one_each : length objects ≡ length lines
  pub each : (i : ℕ) (o l : ItemText) → slice_get objects i ≡ Some o → slice_get lines i ≡ Some l → Gives back o.text l.text × (o.is_finding ≡ l.is_finding)
  pub together : Gives back (joined_texts objects) (joined_texts lines) × (has_finding objects ≡ has_finding lines)

-- of what `losses` writes of an input as objects, of its events and at its end, it gives what it writes as lines
abbrev pub GivesLosses : Type 0 → Type 0 → (List ℕ → List ℕ) → Type 0
GivesLosses A F back =
    (periods : List Period) (counted : Counted) (said : Numbered (Event A) F) (objects lines : Numbered ItemText F) → ArePeriods periods → AllByRecursion IsGiven said.items →
    AreLosses periods (Lines (Object counted)) said objects → AreLosses periods (Lines Text) said lines → GivesTexts back (written_of objects) (written_of lines)

-- it does so for each command, and of the last line too, of a fault of the input or of a block given twice
pub record GivesAllLines (A C F : Type 0) (back : List ℕ → List ℕ) : Type 0 where
  pub of_nothing : back [] ≡ []
  pub show : GivesLines {A = A} C F back show_allows
  pub check : GivesLines {A = A} C F back (exactly_each check_event_in)
  pub replay : (manner : ReplayManner) (blocks : List (Block A)) (says : Says A) → AreGivenBlocks blocks → AreTold manner blocks says → GivesLines C F back (entries_in blocks says)
  pub watch : (period : ℕ) (id : List ℕ) (texts : Form → EventText A) → IsWide period → AreWatchTexts period id texts → GivesLines C F back (exactly_each texts)
  pub blocks : (texts : Form → EventText A) → AreBlocksTexts texts → GivesLines C F back (exactly_each texts)
  pub losses : GivesLosses A F back
  pub of_list_fault : (f : ListFault) → IsWide f.line → Gives back (list_fault_object f) (list_fault_line f)
  pub of_capture_fault : (f : CaptureFault) → IsWide f.number → Gives back (capture_fault_object f) (capture_line f)
  pub of_twice : (blocks : List (Block A)) (i : ℕ) → AreGivenBlocks blocks → i < length blocks → Gives back (twice_object blocks i) (twice_line i)

-- there is one function that does, for all events and all commands
abbrev pub LinesAreHadBack : Type 0 → Type 0 → Type 0 → Type 0
LinesAreHadBack A C F = (back : List ℕ → List ℕ) × GivesAllLines A C F back

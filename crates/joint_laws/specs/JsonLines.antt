-- That what commands write of an event as objects is lines of JSON (RFC 8259), by the words of the kit's reader.
use Rattle.std.specs.Prelude.{◌≡◌, ◌<◌, ℕ, Bool, List, length, map}
use Rattle.std.specs.List.{AllByRecursion, concat}
use Rattle.list_core.specs.declared.event.Event.{Event}
use Rattle.list_core.specs.Items.{Numbered}
use Rattle.block_core.specs.declared.block.Block.{Block}
use Rattle.object_core.specs.declared.counted.Counted.{Counted}
use Rattle.object_core.specs.declared.counted.Form.{Form}
use Rattle.object_core.specs.declared.counted.Form.TheVariants.{Object}
use Rattle.joint_laws.specs.JsonText.{IsJsonLine}
use Rattle.engine_core.specs.declared.style.Style.TheVariants.{Lines}
use Rattle.engine_core.specs.EngineText.{AreAllowedTexts, ItemText, joined_texts}
use Rattle.engine_core.specs.EventsText.{EventAllows, EventText, exactly_each, fault_text, over_in}
use Rattle.frame_engines.specs.CheckObject.{check_event_in}
use Rattle.frame_engines.specs.ShowObject.{show_allows}
use Rattle.exchange_engines.specs.EntryObject.{twice_object}
use Rattle.exchange_engines.specs.declared.engines.replay.ReplayManner.{ReplayManner}
use Rattle.exchange_engines.specs.ReplayText.{AreTold, Says, entries_in}
use Rattle.exchange_engines.specs.WatchText.{AreWatchTexts}
use Rattle.inventory_engine.specs.BlocksText.{AreBlocksTexts}
use Rattle.loss_core.specs.Periods.{ArePeriods, Period}
use Rattle.loss_engine.specs.LossText.{AreLosses}
use Rattle.joint_laws.specs.Given.{AreGivenBlocks, IsGiven, IsWide}

-- the text is lines, and each of them is one value of JSON, in which no object has a name twice
abbrev pub AreJsonLines : List ℕ → Type 0
AreJsonLines text = (lines : List (List ℕ)) × (text ≡ concat lines) × AllByRecursion IsJsonLine lines

-- so is what may be written of each event as objects
abbrev pub EventsAreJson : {A : Type 0} → (Form → EventAllows A) → Type 0
EventsAreJson {A} allows =
    (counted : Counted) (before : List (ℕ × Event A)) (e : ℕ × Event A) (written : List ℕ × Bool) →
    IsGiven e → allows (Object counted) before e written → AreJsonLines written.0

-- and so is what a run wrote of all its events
abbrev pub RunsAreJson : {A : Type 0} (C F : Type 0) → (Form → EventAllows A) → Type 0
RunsAreJson {A} C F allows =
    (counted : Counted) (last_line last_object : F → List ℕ) (items : List (ℕ × Event A)) (texts : List ItemText) → AllByRecursion IsGiven items →
    AreAllowedTexts (over_in {C = C} (Lines (Object counted)) allows (fault_text last_line last_object)) items texts → AreJsonLines (joined_texts texts)

-- both
pub record ObjectsAreJson {A : Type 0} (C F : Type 0) (allows : Form → EventAllows A) : Type 0 where
  pub of_event : EventsAreJson allows
  pub of_run : RunsAreJson C F allows

-- what `show` writes
abbrev pub ShowIsJson : Type 0 → Type 0 → Type 0 → Type 0
ShowIsJson A C F = ObjectsAreJson {A = A} C F show_allows

-- what `check` writes
abbrev pub CheckIsJson : Type 0 → Type 0 → Type 0 → Type 0
CheckIsJson A C F = ObjectsAreJson {A = A} C F (exactly_each check_event_in)

-- what `replay` writes of the entries that events have for these blocks, in each manner
abbrev pub ReplayIsJson : Type 0 → Type 0 → Type 0 → Type 0
ReplayIsJson A C F = (manner : ReplayManner) (blocks : List (Block A)) (says : Says A) → AreGivenBlocks blocks → AreTold manner blocks says → ObjectsAreJson C F (entries_in blocks says)

-- and of a block given twice
abbrev pub TwiceIsJson : Type 0 → Type 0
TwiceIsJson A = (blocks : List (Block A)) (i : ℕ) → AreGivenBlocks blocks → i < length blocks → IsJsonLine (twice_object blocks i)

-- what `watch` writes
abbrev pub WatchIsJson : Type 0 → Type 0 → Type 0 → Type 0
WatchIsJson A C F = (period : ℕ) (id : List ℕ) (texts : Form → EventText A) → IsWide period → AreWatchTexts period id texts → ObjectsAreJson C F (exactly_each texts)

-- what `blocks` writes
abbrev pub BlocksIsJson : Type 0 → Type 0 → Type 0 → Type 0
BlocksIsJson A C F = (texts : Form → EventText A) → AreBlocksTexts texts → ObjectsAreJson C F (exactly_each texts)

-- ---- `losses`, which writes of each event, and at the end of the input of what came in all

-- what was written of each piece of it
abbrev pub written_of : {F : Type 0} → Numbered ItemText F → List ItemText
written_of pieces = map (λ w. w.1) pieces.items

-- each of these texts is lines of JSON, and so are all of them together
pub record TextsAreJson (texts : List ItemText) : Type 0 where
  pub each : AllByRecursion (λ w. AreJsonLines w.text) texts
  pub together : AreJsonLines (joined_texts texts)

-- what `losses` writes of an input
abbrev pub LossesAreJson : Type 0 → Type 0 → Type 0
LossesAreJson A F =
    (periods : List Period) (counted : Counted) (said : Numbered (Event A) F) (pieces : Numbered ItemText F) → ArePeriods periods → AllByRecursion IsGiven said.items → AreLosses periods (Lines (Object counted)) said pieces
    → TextsAreJson (written_of pieces)

-- What commands may write of an event: in which styles there is such a text, and that as text it is whole lines.
use Rattle.std.specs.Prelude.{ℕ, Bool, List, All}
use Rattle.list_core.specs.declared.event.Event.{Event}
use Rattle.block_core.specs.declared.block.Block.{Block}
use Rattle.object_core.specs.declared.counted.Form.{Form}
use Rattle.object_core.specs.declared.counted.Form.TheVariants.{Text}
use Rattle.engine_core.specs.declared.style.Style.{Style}
use Rattle.engine_core.specs.declared.style.Style.TheVariants.{Lines, Dated}
use Rattle.engine_core.specs.DatedLaws.{IsLines}
use Rattle.engine_core.specs.EngineText.{AreAllowedTexts, ItemText}
use Rattle.engine_core.specs.EventsText.{EventAllows, EventText, FaultText, exactly_each, over_allowed, over_in}
use Rattle.engine_core.specs.WholeRun.{AllowsEach}
use Rattle.frame_engines.specs.CheckObject.{check_event_in}
use Rattle.frame_engines.specs.ShowObject.{show_allows}
use Rattle.exchange_engines.specs.ReplayText.{Says, entries_in}
use Rattle.exchange_engines.specs.WatchText.{AreWatchTexts}
use Rattle.inventory_engine.specs.BlocksText.{AreBlocksTexts}

-- in this style something may be written of each event, whatever events stand before it
abbrev pub WritesEach : {A : Type 0} (C F : Type 0) → Style → (Form → EventAllows A) → Type 0
WritesEach {A} C F style allows = (last : FaultText F) → AllowsEach {X = Event A} {C = C} (over_in style allows last)

-- so where the text of each event is fixed, as those of `check`, `blocks` and `watch` are: in each style
abbrev pub FixedWritesEach : Type 0 → Type 0 → Type 0 → Type 0
FixedWritesEach A C F = (style : Style) (texts : Form → EventText A) → WritesEach C F style (exactly_each texts)

-- as text, with dates or without
pub record TextWritesEach {A : Type 0} (C F : Type 0) (allows : Form → EventAllows A) : Type 0 where
  pub plain : WritesEach C F (Lines Text) allows
  pub dated : WritesEach C F Dated allows

-- so does `show`
abbrev pub ShowWritesEach : Type 0 → Type 0 → Type 0 → Type 0
ShowWritesEach A C F = TextWritesEach {A = A} C F show_allows

-- and `replay`, of the entries that are told
abbrev pub ReplayWritesEach : Type 0 → Type 0 → Type 0 → Type 0
ReplayWritesEach A C F = (blocks : List (Block A)) (says : Says A) → TextWritesEach C F (entries_in blocks says)

-- what is written of an event as text is whole lines, and so is what a run wrote of each of its events
pub record TextIsLines {A : Type 0} (C F : Type 0) (allows : Form → EventAllows A) : Type 0 where
  pub of_event : (before : List (ℕ × Event A)) (e : ℕ × Event A) (written : List ℕ × Bool) → allows Text before e written → IsLines written.0
  pub of_run : (last_line : F → List ℕ) (items : List (ℕ × Event A)) (texts : List ItemText) →
      AreAllowedTexts (over_allowed {C = C} (allows Text) last_line) items texts → All (λ w. IsLines w.text) texts

-- so it is of `show`
abbrev pub ShowIsLines : Type 0 → Type 0 → Type 0 → Type 0
ShowIsLines A C F = TextIsLines {A = A} C F show_allows

-- of `check`
abbrev pub CheckIsLines : Type 0 → Type 0 → Type 0 → Type 0
CheckIsLines A C F = TextIsLines {A = A} C F (exactly_each check_event_in)

-- of `replay`
abbrev pub ReplayIsLines : Type 0 → Type 0 → Type 0 → Type 0
ReplayIsLines A C F = (blocks : List (Block A)) (says : Says A) → TextIsLines C F (entries_in blocks says)

-- of `watch`
abbrev pub WatchIsLines : Type 0 → Type 0 → Type 0 → Type 0
WatchIsLines A C F = (period : ℕ) (id : List ℕ) (texts : Form → EventText A) → AreWatchTexts period id texts → TextIsLines C F (exactly_each texts)

-- of `blocks`
abbrev pub BlocksIsLines : Type 0 → Type 0 → Type 0 → Type 0
BlocksIsLines A C F = (texts : Form → EventText A) → AreBlocksTexts texts → TextIsLines C F (exactly_each texts)

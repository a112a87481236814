-- What holds of the texts of one engine: they say the same of each list.
use Rattle.std.specs.Prelude.{ℕ, List}
use Rattle.list_core.specs.declared.device.InputEnd.{InputEnd}
use Rattle.list_core.specs.declared.event.Event.{Event}
use Rattle.list_core.specs.declared.list_fault.ListCause.{ListCause}
use Rattle.list_core.specs.Items.{Listing, listing}
use Rattle.block_core.specs.declared.block.Block.{Block}
use Rattle.subscribe_core.specs.Apart.{AreApart}
use Rattle.script_core.specs.declared.script.ScriptCause.{ScriptCause}
use Rattle.script_core.specs.declared.script.ScriptItem.{ScriptItem}
use Rattle.script_core.specs.declared.script.ScriptLines.TheVariants.{First}
use Rattle.script_core.specs.Script.{script_rules}
use Rattle.engine_core.specs.EngineText.{Text}
use Rattle.exchange_engines.specs.PublishText.{IsPublishText}
use Rattle.exchange_engines.specs.ReplayText.{IsReplayText}
use Rattle.exchange_engines.specs.WatchText.{IsWatchText}
use Rattle.inventory_engine.specs.BlocksText.{IsBlocksText}
use Rattle.joint_laws.specs.OneText.{SaySame}

-- of each list, two texts of a replay with the same blocks
abbrev pub ReplayTextsAreOne : Type 0 → Type 0
ReplayTextsAreOne A =
    (blocks : List (Block A)) (t u : Text (Event A) ListCause) (l : Listing (Event A) ListCause) → AreApart blocks → IsReplayText blocks t → IsReplayText blocks u →
    SaySame t u l

-- of each list, two texts of a watch with the same period and svID
abbrev pub WatchTextsAreOne : Type 0 → Type 0
WatchTextsAreOne A =
    (period : ℕ) (id : List ℕ) (t u : Text (Event A) ListCause) (l : Listing (Event A) ListCause) → IsWatchText period id t → IsWatchText period id u →
    SaySame t u l

-- of each list, two texts of `blocks`
abbrev pub BlocksTextsAreOne : Type 0 → Type 0
BlocksTextsAreOne A =
    (t u : Text (Event A) ListCause) (l : Listing (Event A) ListCause) → IsBlocksText t → IsBlocksText u →
    SaySame t u l

-- of each script, two texts of `publish`
abbrev pub PublishTextsAreOne : Type 0 → Type 0
PublishTextsAreOne A =
    (t u : Text (ScriptItem A) ScriptCause) (z : InputEnd) (text : List ℕ) → IsPublishText t → IsPublishText u →
    SaySame t u (listing script_rules First z 0 text)

-- The control blocks that a first reading of an input finds, and what a second reading leaves that replays them.
use Rattle.std.specs.Prelude.{◌≡◌, ◌⊎◌, ℕ, Bool, true, false, List, [], Option, None}
use Rattle.std.specs.Global.{Global}
use Rattle.std.specs.Io.KnownBytes.{Appends}
use Rattle.block_core.specs.declared.block.Block.{Block}
use Rattle.list_core.specs.declared.device.InputEnd.{InputEnd}
use Rattle.list_core.specs.declared.device.InputEnd.TheVariants.{Open}
use Rattle.list_core.specs.Device.{AppendsPrefix, GivesOctets}
use Rattle.tally_core.specs.Tally.{Tally}
use Rattle.engine_core.specs.declared.ending.Ending.{Ending}
use Rattle.engine_core.specs.declared.ending.Ending.TheVariants.{WriteFault, Memory}
use Rattle.engine_core.specs.RunOver.{IsUntouched}
use Rattle.inventory_engine.specs.declared.listed_block.ListedBlock.{ListedBlock}
use Rattle.inventory_engine.specs.ListedBlocks.{FindsOf}
use Rattle.inventory_engine.specs.SubscribedText.{subscribed_text}
use Rattle.words_core.specs.CommandLine.{replay}
use Rattle.words_core.specs.declared.option_words.Options.{Options}
use Rattle.task_engine.specs.declared.stop.Stop.{Stop}
use Rattle.task_engine.specs.EventTasks.{Ended}
use Rattle.task_engine.specs.HandedOut.{RequestLinks, RequestPasses}
use Rattle.task_engine.specs.InputText.{capture_events, list_events}
use Rattle.task_engine.specs.RequestText.{RequestWrites, style_of}

-- what is found of a capture or of a list, looked at by options
abbrev pub FindsInput : Bool → Options → InputEnd → List ℕ → List (ListedBlock Global) → List (Block Global) → Type 0
FindsInput true options z read listed blocks = FindsOf (capture_events options) z read listed blocks
FindsInput false options z read listed blocks = FindsOf (list_events options) z read listed blocks

-- what is found by options: the control blocks that `blocks` lists by the same ones, in the order of its lines
abbrev pub FindsBy : Options → InputEnd → List ℕ → List (ListedBlock Global) → List (Block Global) → Type 0
FindsBy options z read listed blocks = FindsInput options.is_capture options z read listed blocks

-- a text that comes before all else is not written whole: the writer failed at a prefix of it, or memory was refused
abbrev pub FailsToBegin : List ℕ → Ending → Option (List ℕ) → Option (List ℕ) → Type 0
FailsToBegin text ending old new = ((ending ≡ WriteFault) × AppendsPrefix old new text) ⊎ ((ending ≡ Memory) × (new ≡ old))

-- nothing was read, since the lines of the blocks were not written
abbrev pub NotBegun : List ℕ → Ended → Option Stop → Option Tally → Type 0
NotBegun text end told passed = (told ≡ None) × (passed ≡ None) × IsUntouched Open end.source end.read × FailsToBegin text end.ending end.old end.new

-- the lines of the blocks were written, and behind them is left what a replay of these blocks leaves
pub record Begun (options : Options) (listed : List (ListedBlock Global)) (blocks : List (Block Global)) (end : Ended) (left after : Option (List ℕ)) (told : Option Stop) (passed : Option Tally) : Type 0 where
  pub held : Option (List ℕ)
  pub lines : Appends end.old held (subscribed_text (style_of options) listed)
  pub replayed : RequestWrites options (replay blocks) (record end { old = held }) told
  pub passes : RequestPasses options (replay blocks) end.ending end.source left after passed

-- what a replay of the control blocks leaves that were found
abbrev pub ReplaysListed : Options → List (ListedBlock Global) → List (Block Global) → Ended → Option (List ℕ) → Option (List ℕ) → Option Stop → Option Tally → Type 0
ReplaysListed options listed blocks end left after told passed =
    NotBegun (subscribed_text (style_of options) listed) end told passed ⊎ Begun options listed blocks end left after told passed

-- what is handed out of the packets that were not captured on Ethernet: of the replay; or nothing, where nothing was read, since the lines of the blocks were not written
abbrev pub ListedLinks : Options → List (Block Global) → Ending → InputEnd → Option (List ℕ) → Option (List ℕ) → Option Tally → Type 0
ListedLinks options blocks ending z left after links =
    RequestLinks options (replay blocks) ending z left after links ⊎ ((links ≡ None) × GivesOctets left after [] × ((ending ≡ WriteFault) ⊎ (ending ≡ Memory)))

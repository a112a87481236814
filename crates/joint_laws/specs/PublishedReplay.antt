-- What `publish` writes of a script, and what the replay of that writes.
use Rattle.std.specs.Prelude.{◌≡◌, ℕ, List, [], ◌∷◌, ◌++◌, length, slice_get, Option, Some, ⊤}
use Rattle.list_core.specs.declared.device.InputEnd.{InputEnd}
use Rattle.frame_core.specs.declared.frame.Frame.{Frame}
use Rattle.list_core.specs.declared.line_rules.ItemFault.{ItemFault}
use Rattle.list_core.specs.declared.line_rules.ItemFault.TheVariants as fault
use Rattle.list_core.specs.Items.{Listing, listing}
use Rattle.list_core.specs.Lines.{Stop, faulty}
use Rattle.publish_core.specs.declared.fault.PublishFault.{PublishFault}
use Rattle.publish_core.specs.Frames.{Setup}
use Rattle.publish_core.specs.Run.{AreAnswers, Call, NoWrap}
use Rattle.block_core.specs.declared.block.Block.{Block}
use Rattle.joint_laws.specs.PublishedList.{InTime, IsOwnBlock, sent_from}
use Rattle.joint_laws.specs.Stems.{AreAccepted}
use Rattle.script_core.specs.declared.script.ScriptCause.{ScriptCause}
use Rattle.script_core.specs.declared.script.ScriptItem.{ScriptItem}
use Rattle.script_core.specs.declared.script.ScriptLines.TheVariants.{First}
use Rattle.script_core.specs.Script.{script_rules}
use Rattle.exchange_engines.specs.PublishText.{IsRefused, item_of_call, items_of_lines, script_cause, script_of}

-- what the text of a script says, whose input ends so
abbrev pub script_of_text : {A : Type 0} → InputEnd → List ℕ → Listing (ScriptItem A) ScriptCause
script_of_text z text = listing script_rules First z 0 text

-- behind these calls a run stops: no call is left, or the first that is left is a change that is refused
abbrev pub StopsBehind : {A : Type 0} → Setup A → List Call → List Call → Type 0
StopsBehind p calls [] = ⊤
StopsBehind p calls (c ∷ more) = (why : PublishFault) × IsRefused p calls c.request why

-- A script says these calls of a publisher up to its end, to a fault, or to the first change that is refused.
pub record SaysRun {A : Type 0} (p : Setup A) (calls : List Call) (script : Listing (ScriptItem A) ScriptCause) : Type 0 where
  pub calls_left : List Call
  pub items : items_of_lines script.items ≡ script_of p (calls ++ calls_left)
  pub accepted : AreAccepted p calls
  pub stops : StopsBehind p calls calls_left

-- the text of a script stops at the line of this call, which is refused behind these
pub record StopsAtCall {A : Type 0} (p : Setup A) (calls : List Call) (c : Call) (script : Listing (ScriptItem A) ScriptCause) (stop : Stop (ItemFault ScriptCause)) : Type 0 where
  pub line : ℕ
  pub why : PublishFault
  pub there : slice_get script.items (length (script_of p calls)) ≡ Some (line, item_of_call c)
  pub refused : IsRefused p calls c.request why
  pub stops : stop ≡ faulty (fault.Line line (script_cause why))

-- where the text of such a script stops: as the script does, or at the line of the change that is refused
abbrev pub TellsStop : {A : Type 0} → Setup A → List Call → List Call → Listing (ScriptItem A) ScriptCause → Stop (ItemFault ScriptCause) → Type 0
TellsStop p calls [] script stop = stop ≡ script.stop
TellsStop p calls (c ∷ more) script stop = StopsAtCall p calls c script stop

-- A run that the publisher's own block can follow: the status numbers don't wrap, and each frame comes in the lifetime of the one before.
pub record CanBeFollowed {A B : Type 0} (p : Setup A) (block : Block B) (calls : List Call) (answers : List (Option (Frame A))) : Type 0 where
  pub own : IsOwnBlock p block
  pub no_wrap : NoWrap p calls
  pub are_answers : AreAnswers p calls answers
  pub in_time : InTime (sent_from 0 calls answers)

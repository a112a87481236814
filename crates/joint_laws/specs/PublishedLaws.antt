-- What holds of what `publish` writes of a script, and of the replay of that.
use Rattle.std.specs.Prelude.{◌≡◌, ◌⊎◌, ℕ, List, [], ◌∷◌, ◌++◌, Option}
use Rattle.list_core.specs.declared.device.InputEnd.{InputEnd}
use Rattle.list_core.specs.declared.event.Event.{Event}
use Rattle.frame_core.specs.declared.frame.Frame.{Frame}
use Rattle.list_core.specs.declared.list_fault.ListCause.{ListCause}
use Rattle.list_core.specs.Items.{Listing}
use Rattle.publish_core.specs.Frames.{Setup}
use Rattle.publish_core.specs.Run.{AreAnswers, Call}
use Rattle.block_core.specs.declared.block.Block.{Block}
use Rattle.joint_laws.specs.PublishedList.{one_entry_each, published_events, sent_from}
use Rattle.script_core.specs.declared.script.ScriptCause.{ScriptCause}
use Rattle.script_core.specs.declared.script.ScriptItem.{ScriptItem}
use Rattle.engine_core.specs.EngineText.{Text, last_text}
use Rattle.engine_core.specs.computed.WholeText.{told, whole_text}
use Rattle.joint_laws.specs.ListText.{ReplayGives, list_text}
use Rattle.exchange_engines.specs.PublishText.{IsPublishText, items_of_lines}
use Rattle.exchange_engines.specs.ReplayText.{IsReplayText}
use Rattle.joint_laws.specs.PublishedReplay.{script_of_text, SaysRun, TellsStop, CanBeFollowed}

-- The text of a script is written as the list of the frames that these calls give, and the line by which it stops; and it stops as it should before the calls that are left.
pub record GivesList {A : Type 0} (B : Type 0) (p : Setup A) (calls left : List Call) (answers : List (Option (Frame A)))
    (script : Listing (ScriptItem A) ScriptCause) (t : Text (ScriptItem A) ScriptCause) : Type 0 where
  pub writes : whole_text t script ≡ list_text (published_events {B = B} (sent_from 0 calls answers)) ++ last_text t (told t script).stop
  pub stops : TellsStop p calls left script (told t script).stop

-- A script is published: it says a run of this publisher, whose calls have these answers, and this is the text of `publish`.
pub record IsPublished {A : Type 0} (p : Setup A) (calls : List Call) (answers : List (Option (Frame A)))
    (script : Listing (ScriptItem A) ScriptCause) (t : Text (ScriptItem A) ScriptCause) : Type 0 where
  pub says_run : SaysRun p calls script
  pub are_answers : AreAnswers p calls answers
  pub is_text : IsPublishText t

-- Of the text of a script that is published, the list of the frames that its calls give is written, and how it stops.
abbrev pub ScriptsGiveLists : Type 0 → Type 0 → Type 0
ScriptsGiveLists A B =
    (p : Setup A) (calls : List Call) (answers : List (Option (Frame A))) (z : InputEnd) (text : List ℕ) (t : Text (ScriptItem A) ScriptCause) →
    (published : IsPublished p calls answers (script_of_text z text) t) → GivesList B p calls published.says_run.calls_left answers (script_of_text z text) t

-- a script says the run of some publisher
pub record SaysSomeRun {A : Type 0} (script : Listing (ScriptItem A) ScriptCause) : Type 0 where
  pub publisher : Setup A
  pub calls : List Call
  pub run : SaysRun publisher calls script

-- the text of a script says nothing of a publisher, or a run of one
abbrev pub ScriptsSayRuns : Type 0 → Type 0
ScriptsSayRuns A =
    (z : InputEnd) (text : List ℕ) → (items_of_lines (script_of_text {A = A} z text).items ≡ []) ⊎ SaysSomeRun (script_of_text {A = A} z text)

-- A script is published, and what is written is replayed with the publisher's own block: it says a run of this publisher, whose
-- calls have these answers and which the block can follow, and these are the texts of `publish` and of the replay.
pub record IsPublishedAndReplayed {A B : Type 0} (p : Setup A) (block : Block B) (calls : List Call) (answers : List (Option (Frame A)))
    (script : Listing (ScriptItem A) ScriptCause) (t : Text (ScriptItem A) ScriptCause) (r : Text (Event B) ListCause) : Type 0 where
  pub says_run : SaysRun p calls script
  pub can_be_followed : CanBeFollowed p block calls answers
  pub is_text : IsPublishText t
  pub is_replayed : IsReplayText (block ∷ []) r

-- What `publish` writes of the text of a script is replayed with the publisher's own block by one line for each frame: an
-- action for a change's, a renewal for a poll's, and nothing else.
abbrev pub PublishedTextsReplay : Type 0 → Type 0 → Type 0
PublishedTextsReplay A B =
    (p : Setup A) (block : Block B) (calls : List Call) (answers : List (Option (Frame A))) (z : InputEnd) (text : List ℕ) (t : Text (ScriptItem A) ScriptCause) (r : Text (Event B) ListCause) →
    IsPublishedAndReplayed p block calls answers (script_of_text z text) t r →
    ReplayGives r (whole_text t (script_of_text z text)) (one_entry_each (sent_from 0 calls answers))

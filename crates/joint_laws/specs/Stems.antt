-- What a subscriber receives of one publisher's run, whatever was lost, repeated or reordered on the way, and what was
-- published under a status number.
use Rattle.std.specs.Prelude.{◌≡◌, ℕ, ◌+◌, ◌<◌, ◌≤◌, ◌^◌, Some, List, length, slice_get, take}
use Rattle.frame_core.specs.Frame.{SpellsFrame}
use Rattle.list_core.specs.declared.event.Event.{Event}
use Rattle.list_core.specs.declared.event.EventKind.TheVariants as kinds
use Rattle.frame_core.specs.declared.frame.Frame.{Frame}
use Rattle.frame_core.specs.Written.{TagIsHeld}
use Rattle.publish_core.specs.Frames.{Change, Setup}
use Rattle.publish_core.specs.Refusal.{Accepts}
use Rattle.publish_core.specs.Run.{Call, Changed, IsChange, NoWrap, Publishes, trace_of_calls as published_trace}
use Rattle.publish_core.specs.Table.{step_at}
use Rattle.block_core.specs.declared.block.Block.{Block}
use Rattle.subscribe_core.specs.declared.registers.Facts.{Facts}
use Rattle.subscribe_core.specs.Epoch.{Trace}
use Rattle.subscribe_core.specs.Laws.{IsIn}
use Rattle.subscribe_core.specs.EventsRead.{EventRead}
use Rattle.subscribe_core.specs.Sight.{trace_of_block}

-- the octets spell a frame that has the APDU of a frame which some call of the run publishes; its envelope may be another
pub record IsOfRun {A : Type 0} (p : Setup A) (calls : List Call) (octets : List ℕ) : Type 0 where
  pub call : ℕ
  pub published : Frame A
  pub publishes : Publishes p calls call published
  pub received : Frame A
  pub spelled : SpellsFrame received octets
  pub same : received.apdu ≡ published.apdu

-- Every good frame of the block in the epoch that starts at s stems from the run of one publisher, whose status numbers
-- begin at 1 or above and don't wrap. The events are read as these readings.
pub record StemsFromRun {A B : Type 0} (block : Block B) (events : List (Event B)) (readings : List EventRead) (s : ℕ) (p : Setup A) (calls : List Call) : Type 0 where
  pub some : 1 ≤ p.first
  pub no_wrap : NoWrap p calls
  pub each : (i : ℕ) (f : Facts) (e : Event B) (octets : List ℕ) → IsIn (trace_of_block block readings) s i f → slice_get events i ≡ Some e → e.kind ≡ kinds.Frame octets → IsOfRun p calls octets

-- what is published under a status number: what change c hands in, counted from 0, where the number is the first one plus c
pub record IsPublishedUnder {A : Type 0} (p : Setup A) (calls : List Call) (number : ℕ) (handed_in : Change) : Type 0 where
  pub c : ℕ
  pub call : ℕ
  pub is_change : IsChange (published_trace calls) call c handed_in
  pub numbered : number ≡ p.first + c

-- at i, in the epoch of s, there is a good frame of change c: it has the status number first + c
pub record ComesAt (t : Trace) (s first c i : ℕ) : Type 0 where
  pub facts : Facts
  pub good : IsIn t s i facts
  pub numbered : facts.state ≡ first + c

-- in the epoch of s a good frame of change c comes before any of a later change
pub record ChangeComesInTime (t : Trace) (s first c : ℕ) : Type 0 where
  pub position : ℕ
  pub comes : ComesAt t s first c position
  pub before : (j d : ℕ) → ComesAt t s first d j → j < position → d ≤ c

-- each change of the run is accepted behind the calls before it
abbrev pub AreAccepted : {A : Type 0} → Setup A → List Call → Type 0
AreAccepted p calls = (i : ℕ) (handed_in : Change) → (published_trace calls).request i ≡ Some (Changed handed_in) → Accepts p (take i calls) handed_in

-- the fields of the control and of the table's steps have the sizes that the types of the code give them
pub record HasSizes {A : Type 0} (p : Setup A) : Type 0 where
  pub to : length p.control.destination ≡ 6
  pub from : length p.control.source ≡ 6
  pub tag : TagIsHeld p.control.tag
  pub app_id : p.control.app_id < 65536
  pub conf_rev : p.control.conf_rev < 2 ^ 32
  pub entries : p.control.entries < 2 ^ 32
  pub lives : (i : ℕ) → (step_at p.table i).live_ms < 2 ^ 32

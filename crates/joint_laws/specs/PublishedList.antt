-- The whole list of frames that a publisher gives, as events of a list, and what the publisher's own block makes of it.
use Rattle.std.specs.Prelude.{◌≡◌, ℕ, ◌+◌, ◌*◌, ◌<◌, ◌≤◌, ◌⊎◌, max, false, Option, Some, None, List, [], ◌∷◌}
use Rattle.frame_core.specs.Written.{written_frame}
use Rattle.list_core.specs.declared.event.Event.{Event}
use Rattle.list_core.specs.declared.event.EventKind.TheVariants as kinds
use Rattle.frame_core.specs.declared.frame.Apdu.{Apdu}
use Rattle.frame_core.specs.declared.frame.Apdu.TheVariants as apdus
use Rattle.frame_core.specs.declared.frame.Frame.{Frame}
use Rattle.publish_core.specs.Frames.{Setup}
use Rattle.publish_core.specs.Run.{Request, AreAnswers, Call, Changed, NoWrap, Polled}
use Rattle.publish_core.specs.Table.{AreSteps}
use Rattle.block_core.specs.declared.block.Block.{Block}
use Rattle.subscribe_core.specs.declared.entry.Entry.{Entry}
use Rattle.subscribe_core.specs.declared.entry.Entry.TheVariants as says
use Rattle.joint_laws.specs.Stems.{AreAccepted, HasSizes}

-- a frame that a call gives: the greatest moment of the calls up to there, what the call does, and the frame
pub record Sent (A : Type 0) : Type 0 where
  pub moment : ℕ
  pub request : Request
  pub frame : Frame A

-- in front of others the frame of one call, if it gives one
abbrev pub with_frame : {A : Type 0} → ℕ → Request → Option (Frame A) → List (Sent A) → List (Sent A)
with_frame moment request None sent = sent
with_frame moment request (Some f) sent = record { moment = moment; request = request; frame = f } ∷ sent

-- the frames that calls give, by their answers; m is the greatest moment of the calls before them
abbrev pub sent_from : {A : Type 0} → ℕ → List Call → List (Option (Frame A)) → List (Sent A)
sent_from m [] answers = []
sent_from m (c ∷ cs) [] = []
sent_from m (c ∷ cs) (a ∷ answers) = with_frame (max m c.moment) c.request a (sent_from (max m c.moment) cs answers)

-- the whole list: each frame's written form, at its moment
abbrev pub published_events : {A B : Type 0} → List (Sent A) → List (Event B)
published_events [] = []
published_events (s ∷ rest) = record { moment = s.moment; kind = kinds.Frame (written_frame s.frame) } ∷ published_events rest

-- the entry for a frame of block 0: one of a change is acted on, one of a poll refreshes
abbrev pub entry_for : {A B : Type 0} → Request → Apdu A → Entry B
entry_for (Changed handed_in) (apdus.Goose q) = says.Act 0 q.st_num q.sq_num q.t q.members
entry_for Polled (apdus.Goose q) = says.Refreshed 0 q.st_num q.sq_num
entry_for (Changed handed_in) (apdus.Sampled q) = says.Sampled
entry_for Polled (apdus.Sampled q) = says.Sampled

-- one entry for each frame, and no other
abbrev pub one_entry_each : {A B : Type 0} → List (Sent A) → List (List (Entry B))
one_entry_each [] = []
one_entry_each (s ∷ rest) = (entry_for s.request s.frame.apdu ∷ []) ∷ one_entry_each rest

-- how long a frame lives, in milliseconds
abbrev pub live_of : {A : Type 0} → Apdu A → ℕ
live_of (apdus.Goose q) = q.live
live_of (apdus.Sampled q) = 0

-- each frame comes before the lifetime of the one before is over; for the first of these it is over at the deadline
abbrev pub InTimeFrom : {A : Type 0} → ℕ → List (Sent A) → Type 0
InTimeFrom deadline [] = Unit {0}
InTimeFrom deadline (s ∷ rest) = (s.moment < deadline) × InTimeFrom (s.moment + 1000 * live_of s.frame.apdu) rest

-- each frame but the first comes before the lifetime of the one before it is over
abbrev pub InTime : {A : Type 0} → List (Sent A) → Type 0
InTime [] = Unit {0}
InTime (s ∷ rest) = InTimeFrom (s.moment + 1000 * live_of s.frame.apdu) rest

-- the block is the publisher's own: it awaits what the control has, whose frames are neither simulated nor in commissioning
pub record IsOwnBlock {A B : Type 0} (p : Setup A) (block : Block B) : Type 0 where
  pub app_id : block.app_id ≡ p.control.app_id
  pub gocb_ref : block.gocb_ref ≡ p.control.gocb_ref
  pub dat_set : block.dat_set ≡ p.control.dat_set
  pub go_id : (block.go_id ≡ None) ⊎ (block.go_id ≡ p.control.go_id)
  pub conf_rev : block.conf_rev ≡ p.control.conf_rev
  pub entries : block.entries ≡ p.control.entries
  pub simulation : p.control.simulation ≡ false
  pub nds_com : p.control.nds_com ≡ false

-- A publisher's whole run at its own block: the status numbers begin at 1 or above and don't wrap, each change is accepted,
-- and each frame comes in the lifetime of the one before.
pub record IsWholeRun {A B : Type 0} (p : Setup A) (block : Block B) (calls : List Call) (answers : List (Option (Frame A))) : Type 0 where
  pub own : IsOwnBlock p block
  pub held : HasSizes p
  pub steps : AreSteps p.table
  pub some : 1 ≤ p.first
  pub most : p.first ≤ 4294967295
  pub no_wrap : NoWrap p calls
  pub accepted : AreAccepted p calls
  pub are_answers : AreAnswers p calls answers
  pub in_time : InTime (sent_from 0 calls answers)

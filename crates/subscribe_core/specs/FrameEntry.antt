-- The entry of a frame of GOOSE among the entries of its event.
use Rattle.std.specs.Prelude.{◌≡◌, ℕ, ◌⊎◌, true, false, Option, Some, None, List, slice_get}
use Rattle.block_core.specs.declared.block.Block.{Block}
use Rattle.subscribe_core.specs.declared.entry.Reason.{Reason}
use Rattle.subscribe_core.specs.declared.entry.Entry.{Entry}
use Rattle.subscribe_core.specs.declared.entry.Entry.TheVariants as says
use Rattle.subscribe_core.specs.declared.registers.Verdict.{Verdict}
use Rattle.subscribe_core.specs.declared.registers.Verdict.TheVariants.{Act, Refreshed, Repeated, Older}
use Rattle.subscribe_core.specs.Epoch.{IsVerdict}
use Rattle.subscribe_core.specs.Matching.{is_of, reason_of, facts_of_frame}
use Rattle.subscribe_core.specs.EventsRead.{FrameRead, EventRead}
use Rattle.subscribe_core.specs.Sight.{trace_of_block}
use Rattle.subscribe_core.specs.Simulation.{mode_at, takes_simulated, is_other_kind}

-- the entry that says the verdict on a frame, with the frame's own numbers, time and members
abbrev pub entry_of : {A : Type 0} → ℕ → FrameRead → Verdict → Entry A
entry_of b f Act = says.Act b f.pdu.st_num f.pdu.sq_num f.pdu.t f.pdu.members
entry_of b f Refreshed = says.Refreshed b f.pdu.st_num f.pdu.sq_num
entry_of b f Repeated = says.Repeated b f.pdu.st_num f.pdu.sq_num
entry_of b f Older = says.Older b f.pdu.st_num f.pdu.sq_num

-- the first reason that holds at i against a frame of the block
abbrev pub reason_at : {A : Type 0} → Block A → List EventRead → ℕ → FrameRead → Option Reason
reason_at block readings i f = reason_of (is_other_kind f (mode_at readings i) (takes_simulated block readings i)) block f

-- the entry of a frame of block b: why it is refused, or else the verdict on it
abbrev pub IsBlockEntry : {A : Type 0} → List EventRead → ℕ → ℕ → Block A → FrameRead → Option Reason → Entry A → Type 0
IsBlockEntry readings i b block f (Some reason) entry = entry ≡ says.Refused b reason
IsBlockEntry readings i b block f None entry =
    (v : Verdict) × IsVerdict (trace_of_block block readings) i (facts_of_frame f) v × (entry ≡ entry_of b f v)

-- the frame is none of the blocks', and the entry says so
pub record IsForeignEntry {A : Type 0} (blocks : List (Block A)) (f : FrameRead) (entry : Entry A) : Type 0 where
  pub foreign : (b : ℕ) (block : Block A) → slice_get blocks b ≡ Some block → is_of f block ≡ false
  pub told : entry ≡ says.NotSubscribed

-- the frame is one of the block at this position, and the entry is that of the block
pub record IsOwnEntry {A : Type 0} (blocks : List (Block A)) (readings : List EventRead) (i : ℕ) (f : FrameRead) (entry : Entry A) : Type 0 where
  pub position : ℕ
  pub block : Block A
  pub here : slice_get blocks position ≡ Some block
  pub own : is_of f block ≡ true
  pub told : IsBlockEntry readings i position block f (reason_at block readings i f) entry

-- the entry of a frame of GOOSE: it is no block's, or it is that of its block
abbrev pub IsFrameEntry : {A : Type 0} → List (Block A) → List EventRead → ℕ → FrameRead → Entry A → Type 0
IsFrameEntry blocks readings i f entry = IsForeignEntry blocks f entry ⊎ IsOwnEntry blocks readings i f entry

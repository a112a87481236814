-- What a subscriber keeps, and when it is what a whole list of events says.
use Rattle.std.specs.Prelude.{◌≡◌, ℕ, Bool, false, Some, None, List, length, replicate, slice_get}
use Rattle.block_core.specs.declared.block.Block.{Block}
use Rattle.subscribe_core.specs.declared.registers.Register.{Register}
use Rattle.list_core.specs.declared.event.Event.{Event}
use Rattle.subscribe_core.specs.Epoch.{BlockHolds}
use Rattle.subscribe_core.specs.EventsRead.{EventRead, AreRead}
use Rattle.subscribe_core.specs.Sight.{greatest_event_moment, trace_of_block}
use Rattle.subscribe_core.specs.Simulation.{last_mode, takes_simulated}

-- what a subscriber keeps: its blocks, a register for each, the simulation mode, and the greatest moment so far
pub record State (A : Type 0) : Type 0 where
  pub blocks : List (Block A)
  pub registers : List Register
  pub mode : Bool
  pub moment : ℕ

-- what a subscriber keeps, and how often the last event reached a block or its register
pub record StateAndLooks (A : Type 0) : Type 0 where
  pub state : State A
  pub looks : ℕ

-- it keeps what the events say, as they are read: a register for each block, and each says what its block holds and takes
pub record StandsAfterRead {A : Type 0} (readings : List EventRead) (s : State A) : Type 0 where
  pub sizes : length s.registers ≡ length s.blocks
  pub moment : s.moment ≡ greatest_event_moment readings
  pub mode : s.mode ≡ last_mode false readings
  pub holds : (b : ℕ) (block : Block A) (r : Register) → slice_get s.blocks b ≡ Some block → slice_get s.registers b ≡ Some r → BlockHolds (trace_of_block block readings) (length readings) r.held
  pub flags : (b : ℕ) (block : Block A) (r : Register) → slice_get s.blocks b ≡ Some block → slice_get s.registers b ≡ Some r → r.takes_simulated ≡ takes_simulated block readings (length readings)

-- it keeps what a list of frame octets, clock moments and mode events says
abbrev pub StandsAfter : {A : Type 0} → List (Event A) → State A → Type 0
StandsAfter events s = (readings : List EventRead) × AreRead events readings × StandsAfterRead readings s

-- a block's register before any event
abbrev pub idle : Register
idle = record { held = None; takes_simulated = false }

-- what a subscriber keeps before any event
abbrev pub fresh_state : {A : Type 0} → List (Block A) → State A
fresh_state blocks = record { blocks = blocks; registers = replicate (length blocks) idle; mode = false; moment = 0 }

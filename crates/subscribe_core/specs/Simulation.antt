-- The simulation mode, and which blocks take simulated frames (profile). All is said by positions in the list.
use Rattle.std.specs.Prelude.{◌≡◌, ℕ, zero, suc, ◌<◌, Bool, true, false, not, ◌&&◌, ◌||◌, Option, Some, None, List, [], ◌∷◌, take, nat_lt, slice_get, if◌then◌else◌}
use Rattle.block_core.specs.declared.block.Block.{Block}
use Rattle.subscribe_core.specs.EventsRead.{FrameRead, Content, OfGoose, OfSampled, OfFault, OfClock, OfMode, EventRead}
use Rattle.subscribe_core.specs.Matching.{is_of, reason_of, is_clear}

-- the mode that an event leaves
abbrev pub mode_by : Content → Bool → Bool
mode_by (OfGoose f) mode = mode
mode_by OfSampled mode = mode
mode_by (OfFault fault) mode = mode
mode_by OfClock mode = mode
mode_by (OfMode on) mode = on

-- what the last mode event says, or else the mode before
abbrev pub last_mode : Bool → List EventRead → Bool
last_mode mode [] = mode
last_mode mode (e ∷ es) = last_mode (mode_by e.content mode) es

-- the mode at i: what the last mode event before i says, off if there is none
abbrev pub mode_at : List EventRead → ℕ → Bool
mode_at readings i = last_mode false (take i readings)

-- an event that sets the mode off
abbrev pub is_off : Content → Bool
is_off (OfGoose f) = false
is_off OfSampled = false
is_off (OfFault fault) = false
is_off OfClock = false
is_off (OfMode on) = not on

-- a simulated frame of the block against which there is no reason but perhaps its simulation
abbrev pub is_plain_simulated : {A : Type 0} → Block A → Content → Bool
is_plain_simulated b (OfGoose f) = is_of f b && (is_clear (reason_of false b f) && f.pdu.simulation)
is_plain_simulated b OfSampled = false
is_plain_simulated b (OfFault fault) = false
is_plain_simulated b OfClock = false
is_plain_simulated b (OfMode on) = false

-- a test of what is read at a position, false past the end
abbrev pub holds_at : (Content → Bool) → Option EventRead → Bool
holds_at p None = false
holds_at p (Some e) = p e.content

-- the test holds of some number below n
abbrev pub some_below : ℕ → (ℕ → Bool) → Bool
some_below zero p = false
some_below (suc n) p = p n || some_below n p

-- at j such a frame comes with the mode on
abbrev pub invites : {A : Type 0} → Block A → List EventRead → ℕ → Bool
invites b readings j = holds_at (is_plain_simulated b) (slice_get readings j) && mode_at readings j

-- the event at k sets the mode off
abbrev pub sets_off : List EventRead → ℕ → Bool
sets_off readings k = holds_at is_off (slice_get readings k)

-- the block takes simulated frames at i: at an earlier position such a frame comes with the mode on, and no event between sets
-- the mode off
pub record TakesSimulated {A : Type 0} (b : Block A) (readings : List EventRead) (i : ℕ) : Type 0 where
  pub since : ℕ
  pub earlier : since < i
  pub invited : invites b readings since ≡ true
  pub lasts : (k : ℕ) → since < k → k < i → ¬ (sets_off readings k ≡ true)

-- the same as a test, by what a law says
abbrev pub takes_simulated : {A : Type 0} → Block A → List EventRead → ℕ → Bool
takes_simulated b readings i =
    some_below i (λ j. invites b readings j && not (some_below i (λ k. nat_lt j k && sets_off readings k)))

-- the block goes over to simulated frames at i, or back to real ones
abbrev pub is_switched : {A : Type 0} → Block A → List EventRead → ℕ → Bool
is_switched b readings i =
    (invites b readings i && not (takes_simulated b readings i)) || (sets_off readings i && takes_simulated b readings i)

-- the frame is of the kind that isn't taken, so that `Simulated` holds: it is simulated and the mode is off, or it is real and
-- the block takes simulated frames
abbrev pub is_other_kind : FrameRead → Bool → Bool → Bool
is_other_kind f mode taken = if f.pdu.simulation then not mode else taken

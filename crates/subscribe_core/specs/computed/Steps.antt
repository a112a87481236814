-- One event, by what a subscriber keeps.
use Rattle.std.specs.Prelude.{ℕ, ◌+◌, max, Bool, true, false, not, ◌&&◌, ◌||◌, ◌==◌, nat_le, nat_lt, Option, Some, None, List, [], ◌∷◌, ◌++◌, position, slice_get, if◌then◌else◌}
use Rattle.block_core.specs.declared.block.Block.{Block}
use Rattle.subscribe_core.specs.declared.entry.Reason.{Reason}
use Rattle.subscribe_core.specs.declared.entry.Entry.{Entry}
use Rattle.subscribe_core.specs.declared.entry.Entry.TheVariants as says
use Rattle.subscribe_core.specs.declared.registers.Facts.{Facts}
use Rattle.subscribe_core.specs.declared.registers.LiveState.{LiveState}
use Rattle.subscribe_core.specs.declared.registers.Register.{Register}
use Rattle.subscribe_core.specs.declared.registers.Verdict.{Verdict}
use Rattle.subscribe_core.specs.declared.registers.Verdict.TheVariants.{Act, Refreshed, Repeated, Older}
use Rattle.subscribe_core.specs.FrameEntry.{entry_of}
use Rattle.subscribe_core.specs.Matching.{is_of, reason_of, facts_of_frame}
use Rattle.subscribe_core.specs.EventsRead.{FrameRead, Content, OfGoose, OfSampled, OfFault, OfClock, OfMode, EventRead}
use Rattle.subscribe_core.specs.Simulation.{is_other_kind, is_plain_simulated, is_off, mode_by}
use Rattle.subscribe_core.specs.State.{State}

-- the lifetime of what is held is over at the moment
abbrev pub is_dead : Option LiveState → ℕ → Bool
is_dead None now = false
is_dead (Some h) now = nat_le h.deadline now

-- what is still held at the moment
abbrev pub after_clock : Option LiveState → ℕ → Option LiveState
after_clock None now = None
after_clock (Some h) now = if nat_le h.deadline now then None else Some h

-- what is still held after a switch, where there is one
abbrev pub after_switch : Bool → Option LiveState → Option LiveState
after_switch true held = None
after_switch false held = held

-- the verdict on a good frame, by what is held
abbrev pub verdict_on : Option LiveState → Facts → Verdict
verdict_on None f = Act
verdict_on (Some h) f =
    if nat_lt h.state f.state then Act
    else if h.state == f.state && nat_lt h.sequence f.sequence then Refreshed
    else if h.state == f.state && h.sequence == f.sequence then Repeated
    else Older

-- what is held after a good frame: an action and a renewal take its pair and its lifetime
abbrev pub held_after_frame : Verdict → Option LiveState → ℕ → Facts → Option LiveState
held_after_frame Act held now f = Some (record { state = f.state; sequence = f.sequence; deadline = now + f.lifetime })
held_after_frame Refreshed held now f = Some (record { state = f.state; sequence = f.sequence; deadline = now + f.lifetime })
held_after_frame Repeated held now f = held
held_after_frame Older held now f = held

-- whether the block is switched at an event, by the mode, its flag and what is read
abbrev pub switch_by : {A : Type 0} → Block A → Bool → Bool → Content → Bool
switch_by b mode flag k = ((is_plain_simulated b k && mode) && not flag) || (is_off k && flag)

-- the flag after it
abbrev pub flag_by : {A : Type 0} → Block A → Bool → Bool → Content → Bool
flag_by b mode flag k = not (is_off k) && ((is_plain_simulated b k && mode) || flag)

-- an Expired entry for each block that is due, in block order; the first has position b
abbrev pub expired_entries : {A : Type 0} → ℕ → ℕ → List Register → List (Entry A)
expired_entries now b [] = []
expired_entries now b (r ∷ rest) =
    if is_dead r.held now then says.Expired b ∷ expired_entries now (b + 1) rest else expired_entries now (b + 1) rest

-- a Switched entry for each block that is switched, in block order; the first has position b
abbrev pub switched_entries : {A : Type 0} → Bool → Content → ℕ → List (Block A) → List Register → List (Entry A)
switched_entries mode k b [] rs = []
switched_entries mode k b (x ∷ xs) [] = []
switched_entries mode k b (x ∷ xs) (r ∷ rs) =
    if switch_by x mode r.takes_simulated k then says.Switched b ∷ switched_entries mode k (b + 1) xs rs
    else switched_entries mode k (b + 1) xs rs

-- what a block holds once the expiry and the switch are done
abbrev pub turned : {A : Type 0} → ℕ → Bool → Content → Block A → Register → Option LiveState
turned now mode k x r = after_switch (switch_by x mode r.takes_simulated k) (after_clock r.held now)

-- a frame of a block: its entry, by the reason against it and what the block holds
abbrev pub block_entry : {A : Type 0} → ℕ → FrameRead → Option Reason → Option LiveState → Entry A
block_entry b f (Some reason) held = says.Refused b reason
block_entry b f None held = entry_of b f (verdict_on held (facts_of_frame f))

-- and what the block holds afterwards
abbrev pub block_held : ℕ → FrameRead → Option Reason → Option LiveState → Option LiveState
block_held now f (Some reason) held = held
block_held now f None held = held_after_frame (verdict_on held (facts_of_frame f)) held now (facts_of_frame f)

-- what a block holds after an event
abbrev pub held_by : {A : Type 0} → ℕ → Bool → Block A → Register → Content → Option LiveState → Option LiveState
held_by now mode x r (OfGoose f) held =
    if is_of f x then block_held now f (reason_of (is_other_kind f mode r.takes_simulated) x f) held else held
held_by now mode x r OfSampled held = held
held_by now mode x r (OfFault fault) held = held
held_by now mode x r OfClock held = held
held_by now mode x r (OfMode on) held = held

-- what is kept of a block after an event
abbrev pub register_by : {A : Type 0} → ℕ → Bool → Content → Block A → Register → Register
register_by now mode k x r =
    record { held = held_by now mode x r k (turned now mode k x r); takes_simulated = flag_by x mode r.takes_simulated k }

-- what is kept of each block
abbrev pub registers_by : {A : Type 0} → ℕ → Bool → Content → List (Block A) → List Register → List Register
registers_by now mode k [] rs = []
registers_by now mode k (x ∷ xs) [] = []
registers_by now mode k (x ∷ xs) (r ∷ rs) = register_by now mode k x r ∷ registers_by now mode k xs rs

-- the entry of a frame of GOOSE, by the block that was found and what is kept of it
abbrev pub found_entry : {A : Type 0} → ℕ → Bool → FrameRead → ℕ → Option (Block A) → Option Register → Entry A
found_entry now mode f b (Some x) (Some r) =
    block_entry b f (reason_of (is_other_kind f mode r.takes_simulated) x f) (turned now mode (OfGoose f) x r)
found_entry now mode f b (Some x) None = says.NotSubscribed
found_entry now mode f b None r = says.NotSubscribed

abbrev pub frame_entry : {A : Type 0} → ℕ → Bool → List (Block A) → List Register → FrameRead → Option ℕ → Entry A
frame_entry now mode xs rs f None = says.NotSubscribed
frame_entry now mode xs rs f (Some b) = found_entry now mode f b (slice_get xs b) (slice_get rs b)

-- what is said of what is read, after the expiries and the switches
abbrev pub said_of : {A : Type 0} → ℕ → Bool → List (Block A) → List Register → Content → List (Entry A)
said_of now mode xs rs (OfGoose f) = frame_entry now mode xs rs f (position (is_of f) xs) ∷ []
said_of now mode xs rs OfSampled = says.Sampled ∷ []
said_of now mode xs rs (OfFault fault) = says.Faulty fault ∷ []
said_of now mode xs rs OfClock = []
said_of now mode xs rs (OfMode on) = []

-- the entries of an event
abbrev pub step_entries : {A : Type 0} → State A → EventRead → List (Entry A)
step_entries s e =
    let now = max s.moment e.moment in
    expired_entries now 0 s.registers ++ (switched_entries s.mode e.content 0 s.blocks s.registers ++
    said_of now s.mode s.blocks s.registers e.content)

-- what is kept after it
abbrev pub step_state : {A : Type 0} → State A → EventRead → State A
step_state s e =
    let now = max s.moment e.moment in
    record {
      blocks = s.blocks;
      registers = registers_by now s.mode e.content s.blocks s.registers;
      mode = mode_by e.content s.mode;
      moment = now;
    }

-- the entries of events, one after another
abbrev pub run_events : {A : Type 0} → State A → List EventRead → List (List (Entry A))
run_events s [] = []
run_events s (e ∷ es) = step_entries s e ∷ run_events (step_state s e) es

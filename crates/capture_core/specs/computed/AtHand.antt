-- What private calls promise of blocks that are at hand as wholes.
use Rattle.std.specs.Prelude.{◌≡◌, ◌<◌, ◌≤◌, ℕ, ◌+◌, List, ◌++◌, length, Option, Ok, Err}
use Rattle.std.specs.Io.KnownBytes.{Consumes}
use Rattle.list_core.specs.declared.device.InputEnd.{InputEnd}
use Rattle.list_core.specs.declared.device.InputEnd.TheVariants.{Open}
use Rattle.list_core.specs.declared.event.Event.{Event}
use Rattle.list_core.specs.Lines.{unfinished}
use Rattle.capture_core.specs.Capture.{captured_size, moment_in_head}
use Rattle.capture_core.specs.Packets.{Packet, event_of}
use Rattle.capture_core.specs.Blocks.{Settled, captures, first_block}
use Rattle.capture_core.specs.declared.at_hand.FrameAhead.{FrameAhead}
use Rattle.capture_core.specs.declared.form.CaptureForm.{CaptureForm}

-- These octets are a block that has this packet: its first eight octets say that it ends with the others.
pub record IsPacketBlock (s : Settled) (head rest : List ℕ) (p : Packet) : Type 0 where
  pub eight : length head ≡ 8
  pub early : (n : ℕ) (front : List ℕ) → length front < length rest → first_block Open n s (head ++ front) ≡ Err unfinished
  pub whole : (z : InputEnd) (n : ℕ) (more : List ℕ) → first_block z n s (head ++ (rest ++ more)) ≡ Ok (captures p, length head + length rest)

-- a frame as a packet
abbrev pub packet_ahead : FrameAhead → Packet
packet_ahead f = record { moment = f.moment; link_type = 1; octets = f.octets.now }

-- the block that comes first of these octets has this frame
abbrev pub IsFrameAhead : Settled → List ℕ → FrameAhead → Type 0
IsFrameAhead s ahead f = (head : List ℕ) × (rest : List ℕ) × (others : List ℕ) × (ahead ≡ head ++ (rest ++ others)) × (f.total ≡ length head + length rest) × (0 < length f.octets.now) × IsPacketBlock s head rest (packet_ahead f)

-- a block that has a frame was read, which is this event
abbrev pub GivesFrame : {A : Type 0} → Settled → Option (List ℕ) → Event A → Option (List ℕ) → Type 0
GivesFrame s old e new = (head : List ℕ) × (rest : List ℕ) × (p : Packet) × (e ≡ event_of p) × (p.link_type ≡ 1) × Consumes old new (head ++ rest) × IsPacketBlock s head rest p

-- a record of the classic form that has a frame was read, which is this event
abbrev pub GivesRecord : {A : Type 0} → CaptureForm → Option (List ℕ) → Event A → Option (List ℕ) → Type 0
GivesRecord form old e new = (head : List ℕ) × (octets : List ℕ) × (length head ≡ 16) × (captured_size form head ≡ length octets) × (0 < length octets) × (length octets ≤ 262144)
    × (e ≡ event_of (record { moment = moment_in_head form head; link_type = 1; octets = octets })) × Consumes old new (head ++ octets)

-- What private calls promise of sections and their blocks.
use Rattle.std.specs.Prelude.{◌≡◌, ◌≢◌, ◌≤◌, ◌<◌, ℕ, ◌+◌, ◌-◌, ◌==◌, List, ◌++◌, length, take, Option, Some, Result, Ok, Err, if◌then◌else◌}
use Rattle.std.specs.Io.KnownBytes.{Consumes}
use Rattle.list_core.specs.declared.device.InputEnd.{InputEnd}
use Rattle.list_core.specs.Device.{OnlyOpen}
use Rattle.capture_core.specs.Numbers.{number_at}
use Rattle.capture_core.specs.Packets.{Packet, event_of}
use Rattle.capture_core.specs.Interfaces.{options_in}
use Rattle.capture_core.specs.Blocks.{Settled, Block, begins, describes, captures, passes, head_size, packet_block_of, packet_head}
use Rattle.capture_core.specs.computed.Filling.{IsShort}
use Rattle.capture_core.specs.declared.form.OctetOrder.{OctetOrder}
use Rattle.capture_core.specs.declared.interface.Interface.{Interface}
use Rattle.capture_core.specs.declared.packet_block.PacketBlock.{PacketBlock}
use Rattle.capture_core.specs.declared.packet_block.PacketHead.{PacketHead}
use Rattle.capture_core.specs.declared.packet_block.Section.{Section}
use Rattle.capture_core.specs.declared.options.FirstOption.{FirstOption}
use Rattle.capture_core.specs.declared.options.FirstOption.TheVariants.{More, Last}
use Rattle.capture_core.specs.declared.filling.Short.{Short}
use Rattle.capture_core.specs.declared.body.Said.{Said}
use Rattle.capture_core.specs.declared.body.Said.TheVariants as said
use Rattle.capture_core.specs.declared.capture_fault.CaptureCause.{CaptureCause}
use Rattle.capture_core.specs.declared.capture_fault.CaptureCause.TheVariants as cause

-- what a section stands for
abbrev pub settled : Section → Settled
settled s = record { order = s.order; interfaces = s.interfaces.now; moment = s.moment }

-- what the first option says, of which these octets were read: the interface after it, or after all options
abbrev pub OptionSays : OctetOrder → Interface → ℕ → FirstOption → List ℕ → Type 0
OptionSays order i left (More j size) octets = (length octets ≡ size) × (4 ≤ size) × (size ≤ left)
    × ((rest : List ℕ) → length octets + length rest ≡ left → options_in order (octets ++ rest) i ≡ options_in order rest j)
OptionSays order i left (Last after) octets = (length octets ≡ left) × (after ≡ options_in order octets i)

-- the first option of so many octets was read, or the source has ended before
abbrev pub ReadsOption : OctetOrder → Interface → ℕ → Option (List ℕ) → InputEnd → Result FirstOption Short → Option (List ℕ) → InputEnd → Type 0
ReadsOption order i left old z (Ok first) new w = (given : List ℕ) × OptionSays order i left first given × Consumes old new given × OnlyOpen z given w × (w ≡ z)
ReadsOption order i left old z (Err e) new w = IsShort left old z new w

-- such a head is that of a frame, which has octets to keep
abbrev pub IsFrameHead : PacketHead → Type 0
IsFrameHead head = (head.link_type ≡ 1) × (0 < head.size)

-- what was read of the body of a packet block, of so many octets, is the head of a frame
abbrev pub TellsFrame : Settled → PacketBlock → ℕ → List ℕ → Type 0
TellsFrame s kind size given = (head : PacketHead) × (length given ≡ head_size kind) × (Ok head ≡ packet_head kind s given size) × (head_size kind + head.size ≤ size) × IsFrameHead head

-- the same of the body of a block of this type
abbrev pub TellsFrameOf : Settled → ℕ → ℕ → List ℕ → Type 0
TellsFrameOf s type size given = (kind : PacketBlock) × (type ≡ 1 → ⊥) × (packet_block_of type ≡ Some kind) × TellsFrame s kind size given

-- what a block said is that this packet was captured: its event, if that was on Ethernet, or the moment and the type of the link
abbrev pub IsCaptured : {A : Type 0} → Said A → Packet → Type 0
IsCaptured (said.Captures e) p = (e ≡ event_of p) × (p.link_type ≡ 1)
IsCaptured (said.CapturesOther moment link) p = (p.moment ≡ moment) × (p.link_type ≡ link) × (link ≢ 1)
IsCaptured (said.Begins order) p = ⊥
IsCaptured (said.Describes i) p = ⊥
IsCaptured said.Passes p = ⊥

-- what a block said, or why it is refused
abbrev pub IsSaidAs : {A : Type 0} → Result (Said A) CaptureCause → Result Block CaptureCause → Type 0
IsSaidAs (Ok (said.Begins order)) b = b ≡ Ok (begins order)
IsSaidAs (Ok (said.Describes i)) b = b ≡ Ok (describes i)
IsSaidAs (Ok (said.Captures e)) b = (p : Packet) × (b ≡ Ok (captures p)) × (e ≡ event_of p) × (p.link_type ≡ 1)
IsSaidAs (Ok (said.CapturesOther moment link)) b = (p : Packet) × (b ≡ Ok (captures p)) × (p.moment ≡ moment) × (p.link_type ≡ link) × (link ≢ 1)
IsSaidAs (Ok said.Passes) b = b ≡ Ok passes
IsSaidAs (Err why) b = b ≡ Err why

-- what follows the first eight octets of a block says: the body, if the length behind it is this one
abbrev pub block_rest : OctetOrder → ℕ → List ℕ → (List ℕ → Result Block CaptureCause) → Result Block CaptureCause
block_rest order total rest said = if number_at order 4 rest (total - 12) == total then said (take (total - 12) rest) else Err cause.BlockLength

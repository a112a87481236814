-- A capture in the form pcapng is blocks (draft-ietf-opsawg-pcapng, 3): what each says, after what those before it settled.
use Rattle.std.specs.Prelude.{ℕ, ◌+◌, ◌-◌, ◌*◌, ◌^◌, ◌%◌, ◌==◌, ◌||◌, not, Bool, List, [], ◌∷◌, ◌++◌, zero, suc, length, take, drop, slice_get, Option, Some, None, Result, Ok, Err, nat_lt, if◌then◌else◌}
use Rattle.list_core.specs.declared.device.InputEnd.{InputEnd}
use Rattle.list_core.specs.Lines.{Stop}
use Rattle.capture_core.specs.Numbers.{number_at}
use Rattle.capture_core.specs.Capture.{cut, ended, fault_in}
use Rattle.capture_core.specs.Packets.{Packet, Numbered, stopped, put_numbered}
use Rattle.capture_core.specs.Interfaces.{padded, interface_in, moment_after}
use Rattle.capture_core.specs.declared.form.OctetOrder.{OctetOrder}
use Rattle.capture_core.specs.declared.form.OctetOrder.TheVariants.{BigEndian, LittleEndian}
use Rattle.capture_core.specs.declared.interface.Interface.{Interface}
use Rattle.capture_core.specs.declared.packet_block.PacketHead.{PacketHead}
use Rattle.capture_core.specs.declared.packet_block.PacketBlock.{PacketBlock}
use Rattle.capture_core.specs.declared.packet_block.PacketBlock.TheVariants.{Enhanced, Obsolete, Simple}
use Rattle.capture_core.specs.declared.capture_fault.CaptureCause.{CaptureCause}
use Rattle.capture_core.specs.declared.capture_fault.CaptureCause.TheVariants as cause
use Rattle.capture_core.specs.declared.capture_fault.CaptureFault.{CaptureFault}

-- ---- what blocks say

-- what the blocks so far have settled: the order of the octets of the section's numbers, its interfaces, and the moment of the last packet
pub record Settled : Type 0 where
  pub order : OctetOrder
  pub interfaces : List Interface
  pub moment : ℕ

-- what a block says: a section begins, whose numbers have this order; the section has this interface; this packet was captured; or nothing that is looked at
pub data Block : Type 0 where
  begins : OctetOrder → Block
  describes : Interface → Block
  captures : Packet → Block
  passes : Block

-- what is settled after a block
abbrev pub settled_after : Settled → Block → Settled
settled_after s (begins order) = record { order = order; interfaces = []; moment = s.moment }
settled_after s (describes i) = record { order = s.order; interfaces = s.interfaces ++ i ∷ []; moment = s.moment }
settled_after s (captures p) = record { order = s.order; interfaces = s.interfaces; moment = p.moment }
settled_after s passes = s

-- how many packets there are after a block behind n
abbrev pub count_after : ℕ → Block → ℕ
count_after n (begins order) = n
count_after n (describes i) = n
count_after n (captures p) = n + 1
count_after n passes = n

-- what a block behind n packets says, before what the others say: a packet has a number
abbrev pub put_block : ℕ → Block → Numbered Packet → Numbered Packet
put_block n (begins order) others = others
put_block n (describes i) others = others
put_block n (captures p) others = put_numbered (n + 1, p) others
put_block n passes others = others

-- ---- packets

-- how many octets stand before the captured ones in the body of a packet block (4.3, 4.4, A)
abbrev pub head_size : PacketBlock → ℕ
head_size Enhanced = 20
head_size Obsolete = 20
head_size Simple = 4

-- the number of the packet's interface, from 0; a simple packet has the first one
abbrev pub interface_number : PacketBlock → OctetOrder → List ℕ → ℕ
interface_number Enhanced order head = number_at order 4 head 0
interface_number Obsolete order head = number_at order 2 head 0
interface_number Simple order head = 0

-- a length, or the snapshot length where there is one and it is less
abbrev pub within_snapshot : ℕ → ℕ → ℕ
within_snapshot snapshot size = if snapshot == 0 then size else (if nat_lt snapshot size then snapshot else size)

-- how many octets were captured
abbrev pub captured_length : PacketBlock → OctetOrder → Interface → List ℕ → ℕ
captured_length Enhanced order i head = number_at order 4 head 12
captured_length Obsolete order i head = number_at order 4 head 12
captured_length Simple order i head = within_snapshot i.snapshot_length (number_at order 4 head 0)

-- the ticks at which the packet was captured
abbrev pub ticks_in : OctetOrder → List ℕ → ℕ
ticks_in order head = number_at order 4 head 4 * 2 ^ 32 + number_at order 4 head 8

-- the moment of the packet; a simple packet has that of the packet before
abbrev pub packet_moment : PacketBlock → Settled → Interface → List ℕ → Option ℕ
packet_moment Enhanced s i head = moment_after i (ticks_in s.order head)
packet_moment Obsolete s i head = moment_after i (ticks_in s.order head)
packet_moment Simple s i head = Some s.moment

-- a head with this moment
abbrev pub head_at : ℕ → ℕ → Option ℕ → Result PacketHead CaptureCause
head_at link size None = Err cause.PacketTime
head_at link size (Some moment) = Ok (record { moment = moment; link_type = link; size = size })

-- a head whose interface is this one
abbrev pub head_on : PacketBlock → Settled → List ℕ → ℕ → Option Interface → Result PacketHead CaptureCause
head_on kind s head size None = Err cause.Interface
head_on kind s head size (Some i) =
    let captured = captured_length kind s.order i head in
    if nat_lt 262144 captured then Err cause.RecordLength else
    (if nat_lt size (head_size kind + padded captured) then Err cause.BlockForm else
    head_at i.link_type captured (packet_moment kind s i head))

-- the head of a packet in a body of so many octets, or why it is refused
abbrev pub packet_head : PacketBlock → Settled → List ℕ → ℕ → Result PacketHead CaptureCause
packet_head kind s head size = if nat_lt size (head_size kind) then Err cause.BlockForm else head_on kind s head size (slice_get s.interfaces (interface_number kind s.order head))

-- the captured octets behind a head
abbrev pub captured_behind : PacketBlock → List ℕ → Result PacketHead CaptureCause → Result Block CaptureCause
captured_behind kind body (Err why) = Err why
captured_behind kind body (Ok head) = Ok (captures (record { moment = head.moment; link_type = head.link_type; octets = take head.size (drop (head_size kind) body) }))

-- what the body of a packet block says
abbrev pub packet_in : PacketBlock → Settled → List ℕ → Result Block CaptureCause
packet_in kind s body = captured_behind kind body (packet_head kind s body (length body))

-- ---- blocks

-- the kind of packet block that has this type
abbrev pub packet_block_of : ℕ → Option PacketBlock
packet_block_of type = if type == 6 then Some Enhanced else (if type == 2 then Some Obsolete else (if type == 3 then Some Simple else None))

-- one interface more; a section has 65,536 at most
abbrev pub interface_said : Settled → Option Interface → Result Block CaptureCause
interface_said s None = Err cause.BlockForm
interface_said s (Some i) = if nat_lt (length s.interfaces) 65536 then Ok (describes i) else Err cause.BlockForm

-- what the body of a block says that is no interface
abbrev pub said_by_kind : Settled → Option PacketBlock → List ℕ → Result Block CaptureCause
said_by_kind s None body = Ok passes
said_by_kind s (Some kind) body = packet_in kind s body

-- what the body of a block of this type says, a section header aside
abbrev pub body_said : Settled → ℕ → List ℕ → Result Block CaptureCause
body_said s type body = if type == 1 then interface_said s (interface_in s.order body) else said_by_kind s (packet_block_of type) body

-- what the body of a section header says, which has this order: the major version is 1
abbrev pub section_said : OctetOrder → CaptureCause → List ℕ → Result Block CaptureCause
section_said order why body = if number_at order 2 body 4 == 1 then Ok (begins order) else Err why

-- whether no block has this total length: it is below the least one, no multiple of 4, or over 16,777,216
abbrev pub is_bad_length : ℕ → ℕ → Bool
is_bad_length least total = nat_lt total least || not (total % 4 == 0) || nat_lt 16777216 total

-- what a block said and its total length, or why the capture stops in it
abbrev pub BlockRead : Type 0
BlockRead = Result (Block × ℕ) (Stop CaptureFault)

-- a block of this total length, which says this, where n is the number of a fault
abbrev pub block_with : ℕ → ℕ → Result Block CaptureCause → BlockRead
block_with n total (Ok b) = Ok (b, total)
block_with n total (Err why) = Err (fault_in n why)

-- the first block of these octets, of this order and a total length of at least so many: its body says something only if the length behind it is the same
abbrev pub block_in : InputEnd → ℕ → OctetOrder → ℕ → List ℕ → (List ℕ → Result Block CaptureCause) → BlockRead
block_in z n order least octets said =
    let total = number_at order 4 octets 4 in
    if is_bad_length least total then Err (fault_in n cause.BlockLength) else
    (if nat_lt (length octets) total then Err (cut z n) else
    (if number_at order 4 octets (total - 4) == total then block_with n total (said (take (total - 12) (drop 8 octets))) else
    Err (fault_in n cause.BlockLength)))

-- the order in which the byte-order magic of a section header stands
abbrev pub section_order : List ℕ → Option OctetOrder
section_order octets = if number_at BigEndian 4 octets 8 == 0x1a2b3c4d then Some BigEndian else (if number_at LittleEndian 4 octets 8 == 0x1a2b3c4d then Some LittleEndian else None)

-- a section header with this order, of which such a fault of form is told
abbrev pub section_in : InputEnd → ℕ → CaptureCause → List ℕ → Option OctetOrder → BlockRead
section_in z n why octets None = Err (fault_in n why)
section_in z n why octets (Some order) = block_in z n order 28 octets (section_said order why)

-- the section header that begins these octets
abbrev pub section_header : InputEnd → ℕ → CaptureCause → List ℕ → BlockRead
section_header z n why octets = if nat_lt (length octets) 12 then Err (cut z n) else section_in z n why octets (section_order octets)

-- the block that begins these octets, behind what is settled
abbrev pub first_block : InputEnd → ℕ → Settled → List ℕ → BlockRead
first_block z n s octets =
    if nat_lt (length octets) 8 then Err (cut z n) else
    (if number_at s.order 4 octets 0 == 0x0a0d0d0a then section_header z n cause.BlockForm octets else
    block_in z n s.order 12 octets (body_said s (number_at s.order 4 octets 0)))

-- the next block, or the capture's end
abbrev pub next_block : InputEnd → ℕ → Settled → List ℕ → BlockRead
next_block z n s [] = Err (ended z n)
next_block z n s (x ∷ xs) = first_block z n s (x ∷ xs)

-- what a block says before what the others say, behind n packets
abbrev pub before_others : ℕ → BlockRead → (Block → ℕ → Numbered Packet) → Numbered Packet
before_others n (Err stop) others = stopped stop
before_others n (Ok b) others = put_block n b.0 (others b.0 b.1)

-- the packets of the blocks in these octets, behind n packets and what is settled; so many blocks may come
unfoldable pub packets_of_blocks : InputEnd → Settled → ℕ → ℕ → List ℕ → Numbered Packet
packets_of_blocks z s n zero [] = stopped (ended z (n + 1))
packets_of_blocks z s n zero (x ∷ xs) = stopped (fault_in (n + 1) cause.TooManyRecords)
packets_of_blocks z s n (suc most) octets =
    before_others n (next_block z (n + 1) s octets) (λ b size. packets_of_blocks z (settled_after s b) (count_after n b) most (drop size octets))

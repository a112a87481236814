-- What octets are a block, a section header, the description of an interface, a packet, and a whole capture in the form pcapng (draft-ietf-opsawg-pcapng).
use Rattle.std.specs.Prelude.{◌≡◌, ◌⊎◌, ◌≤◌, ◌<◌, ◌+◌, ◌*◌, ◌/◌, ◌%◌, ◌^◌, ◌==◌, ℕ, List, [], ◌∷◌, ◌++◌, length, get_or, slice_get, Option, Some, None, if◌then◌else◌}
use Rattle.std.specs.List.{All}
use Rattle.list_core.specs.Lines.{finished}
use Rattle.capture_core.specs.Numbers.{number_at}
use Rattle.capture_core.specs.Packets.{Packet, Numbered, stopped}
use Rattle.capture_core.specs.Interfaces.{padded, seconds_back, seconds_forth, units_of}
use Rattle.capture_core.specs.Blocks.{Block, Settled, begins, captures, describes, passes, put_block, section_order, settled_after, count_after, ticks_in, within_snapshot}
use Rattle.capture_core.specs.Captured.{unsettled}
use Rattle.capture_core.specs.declared.form.OctetOrder.{OctetOrder}
use Rattle.capture_core.specs.declared.form.OctetOrder.TheVariants.{BigEndian}
use Rattle.capture_core.specs.declared.interface.Interface.{Interface}

-- ---- blocks

-- A block (3.1): eight octets, the last four of which tell its length; its body; and its length again. It is a multiple of 4, and 16,777,216 at most.
pub record IsBlock (order : OctetOrder) (body octets : List ℕ) : Type 0 where
  pub head : List ℕ
  pub tail : List ℕ
  pub parts : octets ≡ head ++ body ++ tail
  pub head_size : length head ≡ 8
  pub tail_size : length tail ≡ 4
  pub tells : number_at order 4 head 4 ≡ length octets
  pub tells_again : number_at order 4 tail 0 ≡ length octets
  pub in_fours : length octets % 4 ≡ 0
  pub at_most : length octets ≤ 16777216

-- A section header (4.1): the byte-order magic stands in the order of the section, and the major version is 1.
pub record IsSectionHeader (order : OctetOrder) (octets : List ℕ) : Type 0 where
  pub body : List ℕ
  pub block : IsBlock order body octets
  pub at_least : 28 ≤ length octets
  pub magic : section_order octets ≡ Some order
  pub major : number_at order 2 body 4 ≡ 1

-- ---- interfaces

-- An option (3.5): its code, the length of its value, the value, and padding to a multiple of 4.
pub record IsOption (order : OctetOrder) (code : ℕ) (value octets : List ℕ) : Type 0 where
  pub head : List ℕ
  pub padding : List ℕ
  pub parts : octets ≡ head ++ value ++ padding
  pub head_size : length head ≡ 4
  pub has_code : number_at order 2 head 0 ≡ code
  pub has_length : number_at order 2 head 2 ≡ length value
  pub is_padded : length (value ++ padding) ≡ padded (length value)

-- options one behind another, up to code 0 or to fewer than four octets
abbrev pub AreOptions : OctetOrder → List (ℕ × List ℕ) → List ℕ → Type 0
AreOptions order [] octets = (length octets < 4) ⊎ ((4 ≤ length octets) × (number_at order 2 octets 0 ≡ 0))
AreOptions order (o ∷ os) octets = (front : List ℕ) × (rest : List ℕ) × (octets ≡ front ++ rest) × (o.0 ≡ 0 → ⊥) × IsOption order o.0 o.1 front × AreOptions order os rest

-- the value of the last option of a code, if there is one
abbrev pub last_value : ℕ → Option (List ℕ) → List (ℕ × List ℕ) → Option (List ℕ)
last_value code before [] = before
last_value code before (o ∷ os) = last_value code (if o.0 == code then Some o.1 else before) os

-- values of these codes have these lengths: if_tsresol (9) one octet, if_tsoffset (14) eight
abbrev pub HasItsLength : ℕ × List ℕ → Type 0
HasItsLength o = (o.0 ≡ 9 → length o.1 ≡ 1) × (o.0 ≡ 14 → length o.1 ≡ 8)

-- the resolution that a value tells; without one it is 6, microseconds
abbrev pub resolution_told : Option (List ℕ) → ℕ
resolution_told None = 6
resolution_told (Some value) = get_or value 0 0

-- the offset that a value tells; without one it is 0
abbrev pub offset_told : OctetOrder → Option (List ℕ) → ℕ
offset_told order None = 0
offset_told order (Some value) = number_at order 8 value 0

-- The body of an interface description (4.2): link type, two octets that are not looked at, snapshot length, options.
pub record IsInterface (order : OctetOrder) (i : Interface) (body : List ℕ) : Type 0 where
  pub head : List ℕ
  pub rest : List ℕ
  pub parts : body ≡ head ++ rest
  pub head_size : length head ≡ 8
  pub link_type : number_at order 2 head 0 ≡ i.link_type
  pub snapshot_length : number_at order 4 head 4 ≡ i.snapshot_length
  pub options : List (ℕ × List ℕ)
  pub are_options : AreOptions order options rest
  pub lengths : All HasItsLength options
  pub resolution : resolution_told (last_value 9 None options) ≡ i.resolution
  pub offset : offset_told order (last_value 14 None options) ≡ i.offset

-- ---- packets

-- the moment of ticks of an interface: whole microseconds of them, and those of the offset; from 1970 on, of at most 18 digits
abbrev pub IsPacketTime : Interface → ℕ → ℕ → Type 0
IsPacketTime i ticks moment = (moment + 1000000 * seconds_back i.offset ≡ ticks * 1000000 / units_of i.resolution + 1000000 * seconds_forth i.offset) × (moment < 10 ^ 18)

-- Captured octets in a body: so many stand before them, and they are padded to a multiple of 4. What follows is not looked at.
pub record HoldsCaptured (before : ℕ) (captured body : List ℕ) : Type 0 where
  pub head : List ℕ
  pub padding : List ℕ
  pub others : List ℕ
  pub parts : body ≡ head ++ (captured ++ padding) ++ others
  pub head_size : length head ≡ before
  pub is_padded : length (captured ++ padding) ≡ padded (length captured)
  pub at_most : length captured ≤ 262144

-- The body of an enhanced packet block (4.3), or of the obsolete one (A), of this interface.
pub record IsTimedPacket (s : Settled) (interface : ℕ) (p : Packet) (body : List ℕ) : Type 0 where
  pub of : Interface
  pub is_known : slice_get s.interfaces interface ≡ Some of
  pub link_type : p.link_type ≡ of.link_type
  pub captured : HoldsCaptured 20 p.octets body
  pub size : number_at s.order 4 body 12 ≡ length p.octets
  pub time : IsPacketTime of (ticks_in s.order body) p.moment

-- The body of a simple packet block (4.4): it is of the section's first interface, and captured with the packet before.
pub record IsSimplePacket (s : Settled) (p : Packet) (body : List ℕ) : Type 0 where
  pub of : Interface
  pub is_known : slice_get s.interfaces 0 ≡ Some of
  pub link_type : p.link_type ≡ of.link_type
  pub captured : HoldsCaptured 4 p.octets body
  pub size : within_snapshot of.snapshot_length (number_at s.order 4 body 0) ≡ length p.octets
  pub time : p.moment ≡ s.moment

-- the body of a block of this type says a packet
abbrev pub IsPacket : Settled → ℕ → Packet → List ℕ → Type 0
IsPacket s type p body = ((type ≡ 6) × IsTimedPacket s (number_at s.order 4 body 0) p body)
    ⊎ ((type ≡ 2) × IsTimedPacket s (number_at s.order 2 body 0) p body)
    ⊎ ((type ≡ 3) × IsSimplePacket s p body)

-- ---- captures

-- the type of a block, behind what is settled
abbrev pub type_of : Settled → List ℕ → ℕ
type_of s octets = number_at s.order 4 octets 0

-- no type that says anything
abbrev pub IsOtherType : ℕ → Type 0
IsOtherType type = (type ≡ 0x0a0d0d0a → ⊥) × (type ≡ 1 → ⊥) × (type ≡ 2 → ⊥) × (type ≡ 3 → ⊥) × (type ≡ 6 → ⊥)

-- the octets of a block that says this, behind what is settled: a section has at most 65,536 interfaces
abbrev pub SpellsBlock : Settled → Block → List ℕ → Type 0
SpellsBlock s (begins order) o = (type_of s o ≡ 0x0a0d0d0a) × IsSectionHeader order o
SpellsBlock s (describes i) o = (type_of s o ≡ 1) × (length s.interfaces < 65536) × ((body : List ℕ) × IsBlock s.order body o × IsInterface s.order i body)
SpellsBlock s (captures p) o = (body : List ℕ) × IsBlock s.order body o × IsPacket s (type_of s o) p body
SpellsBlock s passes o = IsOtherType (type_of s o) × ((body : List ℕ) × IsBlock s.order body o)

-- one block behind another
abbrev pub SpellsBlocks : Settled → List Block → List ℕ → Type 0
SpellsBlocks s [] o = o ≡ []
SpellsBlocks s (b ∷ bs) o = (front : List ℕ) × (rest : List ℕ) × (o ≡ front ++ rest) × SpellsBlock s b front × SpellsBlocks (settled_after s b) bs rest

-- a section header, and then blocks, 999,999,999,999,999,998 with it at most
abbrev pub SpellsSections : List Block → List ℕ → Type 0
SpellsSections bs o = (order : OctetOrder) × (header : List ℕ) × (rest : List ℕ) × (o ≡ header ++ rest) × (number_at BigEndian 4 header 0 ≡ 0x0a0d0d0a) × IsSectionHeader order header
    × (length bs < 999999999999999998) × SpellsBlocks (settled_after unsettled (begins order)) bs rest

-- the packets of blocks behind n packets, which end without a fault
abbrev pub packets_said : ℕ → List Block → Numbered Packet
packets_said n [] = stopped finished
packets_said n (b ∷ bs) = put_block n b (packets_said (count_after n b) bs)

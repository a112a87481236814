-- The first fault of a capture: the packets before it, the number of the one that would come next, and the cause (libpcap; draft-ietf-opsawg-pcapng, 3, 4 and A).
use Rattle.std.specs.Prelude.{◌≡◌, ◌≢◌, ◌⊎◌, ◌≤◌, ◌<◌, ◌+◌, ◌-◌, ◌*◌, ◌/◌, ◌%◌, ◌^◌, ℕ, List, [], ◌∷◌, ◌++◌, length, take, drop, slice_get, Some, None}
use Rattle.list_core.specs.declared.device.InputEnd.{InputEnd}
use Rattle.list_core.specs.declared.device.InputEnd.TheVariants.{Open, End, Failed}
use Rattle.capture_core.specs.Numbers.{number_at}
use Rattle.capture_core.specs.Capture.{CaptureRecord}
use Rattle.capture_core.specs.Packets.{Packet, packets_of_records}
use Rattle.capture_core.specs.Interfaces.{padded, seconds_back, seconds_forth, units_of}
use Rattle.capture_core.specs.Blocks.{Block, Settled, begins, section_order, settled_after, ticks_in, within_snapshot}
use Rattle.capture_core.specs.Captured.{unsettled}
use Rattle.capture_core.specs.Spelling.{SpellsRecords, whole_capture}
use Rattle.capture_core.specs.SpelledBlocks.{HasItsLength, IsBlock, IsInterface, IsOption, IsSectionHeader, SpellsBlocks, packets_said, type_of}
use Rattle.capture_core.specs.declared.form.CaptureForm.{CaptureForm}
use Rattle.capture_core.specs.declared.form.FractionUnit.{FractionUnit}
use Rattle.capture_core.specs.declared.form.FractionUnit.TheVariants.{Microseconds, Nanoseconds}
use Rattle.capture_core.specs.declared.form.OctetOrder.{OctetOrder}
use Rattle.capture_core.specs.declared.form.OctetOrder.TheVariants.{BigEndian}
use Rattle.capture_core.specs.declared.interface.Interface.{Interface}
use Rattle.capture_core.specs.declared.capture_fault.CaptureCause.{CaptureCause}
use Rattle.capture_core.specs.declared.capture_fault.CaptureCause.TheVariants as cause
use Rattle.capture_core.specs.declared.capture_fault.CaptureFault.{CaptureFault}

-- ---- octets that end too soon

-- why octets end within a header, a record or a block: no more come, or reading failed; while more can come, they have no fault for that
abbrev pub EndsBy : InputEnd → CaptureCause → Type 0
EndsBy End why = why ≡ cause.CaptureShort
EndsBy Failed why = why ≡ cause.ReadFailed
EndsBy Open why = ⊥

-- ---- the classic form

-- the magic number, which tells the unit of fractions of a second
abbrev pub magic_of : FractionUnit → ℕ
magic_of Microseconds = 0xa1b2c3d4
magic_of Nanoseconds = 0xa1b23c4d

-- the magic number of this form stands first, in its order
abbrev pub HasMagic : CaptureForm → List ℕ → Type 0
HasMagic form o = number_at form.order 4 o 0 ≡ magic_of form.unit

-- A header of the classic form: the magic number, version 2.4, and link type 1, Ethernet, in the low 16 bits of the last number. The others are not looked at.
pub record IsClassicHeader (form : CaptureForm) (header : List ℕ) : Type 0 where
  pub size : length header ≡ 24
  pub magic : HasMagic form header
  pub major : number_at form.order 2 header 4 ≡ 2
  pub minor : number_at form.order 2 header 6 ≡ 4
  pub link_type : number_at form.order 4 header 20 % 65536 ≡ 1

-- The first fault of a record: the octets end within its head of 16; or its captured length is over 262,144, whatever follows; or they end before so many came.
pub data RecordFault (z : InputEnd) (form : CaptureForm) (why : CaptureCause) (o : List ℕ) : Type 0 where
  ends_in_head : length o < 16 → EndsBy z why → RecordFault z form why o
  record_too_long : 16 ≤ length o → 262144 < number_at form.order 4 o 8 → why ≡ cause.RecordLength → RecordFault z form why o
  ends_in_record : 16 ≤ length o → number_at form.order 4 o 8 ≤ 262144 → length o < 16 + number_at form.order 4 o 8 → EndsBy z why → RecordFault z form why o

-- ---- the lengths of blocks

-- the total length that octets begin with, behind the type of a block
abbrev pub total_length : OctetOrder → List ℕ → ℕ
total_length order o = number_at order 4 o 4

-- no block has this total length: it is below the least one of its type, no multiple of 4, or above 16,777,216
abbrev pub IsBadLength : ℕ → ℕ → Type 0
IsBadLength least total = (total < least) ⊎ (total % 4 ≢ 0) ⊎ (16777216 < total)

-- The first fault of the lengths of a block (3.1): its total length is that of none, whatever follows; or the octets end before so many came; or the four octets at its end tell another one.
pub data LengthFault (z : InputEnd) (order : OctetOrder) (least : ℕ) (why : CaptureCause) (o : List ℕ) : Type 0 where
  bad_length : IsBadLength least (total_length order o) → why ≡ cause.BlockLength → LengthFault z order least why o
  ends_in_block : ¬ IsBadLength least (total_length order o) → length o < total_length order o → EndsBy z why → LengthFault z order least why o
  other_at_end : ¬ IsBadLength least (total_length order o) → total_length order o ≤ length o → number_at order 4 o (total_length order o - 4) ≢ total_length order o → why ≡ cause.BlockLength →
      LengthFault z order least why o

-- ---- interfaces

-- An option (3.5) that no description of an interface has: it reaches past the end, or is an if_tsresol (9) not of 1 octet or an if_tsoffset (14) not of 8.
pub record IsBadOption (order : OctetOrder) (o : List ℕ) : Type 0 where
  pub begun : 4 ≤ length o
  pub no_end : number_at order 2 o 0 ≢ 0
  pub bad : (length o < 4 + padded (number_at order 2 o 2)) ⊎ ((number_at order 2 o 0 ≡ 9) × (number_at order 2 o 2 ≢ 1)) ⊎ ((number_at order 2 o 0 ≡ 14) × (number_at order 2 o 2 ≢ 8))

-- good options one behind another, and then a bad one
abbrev pub EndInBadOption : OctetOrder → List (ℕ × List ℕ) → List ℕ → Type 0
EndInBadOption order [] o = IsBadOption order o
EndInBadOption order (p ∷ ps) o = (front : List ℕ) × (rest : List ℕ) × (o ≡ front ++ rest) × (p.0 ≡ 0 → ⊥) × IsOption order p.0 p.1 front × HasItsLength p × EndInBadOption order ps rest

-- a body that describes no interface (4.2): it has fewer than eight octets, or a bad option behind them
abbrev pub DescribesNone : OctetOrder → List ℕ → Type 0
DescribesNone order body = (length body < 8) ⊎ ((8 ≤ length body) × ((options : List (ℕ × List ℕ)) × EndInBadOption order options (drop 8 body)))

-- ---- packets

-- no packet has the time of these ticks: it is before 1970, or has over 18 digits of microseconds
abbrev pub IsNoPacketTime : Interface → ℕ → Type 0
IsNoPacketTime i ticks =
    let forth = ticks * 1000000 / units_of i.resolution + 1000000 * seconds_forth i.offset in
    let back = 1000000 * seconds_back i.offset in
    (forth < back) ⊎ (10 ^ 18 + back ≤ forth)

-- The first fault of the body of an enhanced packet block (4.3), or of the obsolete one (A), of this interface, judged from left to right: it has fewer than 20 octets;
-- its interface is not described; the captured length is over 262,144; the octets, padded, reach past the body; its time is none.
pub data TimedPacketFault (s : Settled) (interface : ℕ) (why : CaptureCause) (body : List ℕ) : Type 0 where
  timed_short : length body < 20 → why ≡ cause.BlockForm → TimedPacketFault s interface why body
  timed_unknown : 20 ≤ length body → length s.interfaces ≤ interface → why ≡ cause.Interface → TimedPacketFault s interface why body
  timed_too_long : 20 ≤ length body → interface < length s.interfaces → 262144 < number_at s.order 4 body 12 → why ≡ cause.RecordLength → TimedPacketFault s interface why body
  timed_past_end : 20 ≤ length body → interface < length s.interfaces → number_at s.order 4 body 12 ≤ 262144 → length body < 20 + padded (number_at s.order 4 body 12) → why ≡ cause.BlockForm →
      TimedPacketFault s interface why body
  timed_no_time : (of : Interface) → slice_get s.interfaces interface ≡ Some of → number_at s.order 4 body 12 ≤ 262144 → 20 + padded (number_at s.order 4 body 12) ≤ length body →
      IsNoPacketTime of (ticks_in s.order body) → why ≡ cause.PacketTime → TimedPacketFault s interface why body

-- how many octets of a simple packet were captured: the length in its body, or the snapshot length of its interface where that is stated and less
abbrev pub simple_length : Settled → Interface → List ℕ → ℕ
simple_length s of body = within_snapshot of.snapshot_length (number_at s.order 4 body 0)

-- The first fault of the body of a simple packet block (4.4), which is of the section's first interface: it has fewer than 4 octets; the section has no interface;
-- the captured length is over 262,144; or the octets, padded, reach past the body.
pub data SimplePacketFault (s : Settled) (why : CaptureCause) (body : List ℕ) : Type 0 where
  simple_short : length body < 4 → why ≡ cause.BlockForm → SimplePacketFault s why body
  simple_unknown : 4 ≤ length body → s.interfaces ≡ [] → why ≡ cause.Interface → SimplePacketFault s why body
  simple_too_long : (of : Interface) → 4 ≤ length body → slice_get s.interfaces 0 ≡ Some of → 262144 < simple_length s of body → why ≡ cause.RecordLength → SimplePacketFault s why body
  simple_past_end : (of : Interface) → 4 ≤ length body → slice_get s.interfaces 0 ≡ Some of → simple_length s of body ≤ 262144 → length body < 4 + padded (simple_length s of body) → why ≡ cause.BlockForm →
      SimplePacketFault s why body

-- ---- blocks

-- The first fault of the body of a block of this type, behind what is settled: it describes no interface, or the 65,537th of its section; or it is that of a packet.
pub data BodyFault (s : Settled) (type : ℕ) (why : CaptureCause) (body : List ℕ) : Type 0 where
  no_interface : type ≡ 1 → DescribesNone s.order body → why ≡ cause.BlockForm → BodyFault s type why body
  too_many_interfaces : type ≡ 1 → (i : Interface) → IsInterface s.order i body → 65536 ≤ length s.interfaces → why ≡ cause.BlockForm → BodyFault s type why body
  in_enhanced : type ≡ 6 → TimedPacketFault s (number_at s.order 4 body 0) why body → BodyFault s type why body
  in_obsolete : type ≡ 2 → TimedPacketFault s (number_at s.order 2 body 0) why body → BodyFault s type why body
  in_simple : type ≡ 3 → SimplePacketFault s why body → BodyFault s type why body

-- The first fault of a section header (4.1), by a cause of its form where the byte-order magic is none or the major version is not 1: the octets end before the byte-order magic does;
-- that is none; the lengths have a fault; or the version is another.
pub data SectionFault (z : InputEnd) (form : CaptureCause) (why : CaptureCause) (o : List ℕ) : Type 0 where
  ends_in_byte_order : length o < 12 → EndsBy z why → SectionFault z form why o
  no_byte_order : 12 ≤ length o → section_order o ≡ None → why ≡ form → SectionFault z form why o
  in_section_lengths : (order : OctetOrder) → 12 ≤ length o → section_order o ≡ Some order → LengthFault z order 28 why o → SectionFault z form why o
  other_version : (order : OctetOrder) (header rest body : List ℕ) → o ≡ header ++ rest → section_order header ≡ Some order → IsBlock order body header → 28 ≤ length header → number_at order 2 body 4 ≢ 1 →
      why ≡ form → SectionFault z form why o

-- The first fault of a block, behind what is settled: the octets end within its first eight; or it is that of a section header, of the lengths of another block, or of a body whose block is whole.
pub data BlockFault (z : InputEnd) (s : Settled) (why : CaptureCause) (o : List ℕ) : Type 0 where
  ends_in_first_eight : length o < 8 → EndsBy z why → BlockFault z s why o
  in_later_section : 8 ≤ length o → type_of s o ≡ 0x0a0d0d0a → SectionFault z cause.BlockForm why o → BlockFault z s why o
  in_lengths : 8 ≤ length o → type_of s o ≢ 0x0a0d0d0a → LengthFault z s.order 12 why o → BlockFault z s why o
  in_body : (block rest body : List ℕ) → o ≡ block ++ rest → IsBlock s.order body block → BodyFault s (type_of s block) why body → BlockFault z s why o

-- ---- captures

-- The first fault of what a capture begins with: the octets end before the first four came; those are neither a magic number of the classic form nor the type of a section header;
-- the octets end within a classic header, or it is of another version or link type; or it is that of the first section header.
pub data StartFault (z : InputEnd) (why : CaptureCause) (o : List ℕ) : Type 0 where
  ends_in_first_four : length o < 4 → EndsBy z why → StartFault z why o
  no_form : 4 ≤ length o → ((form : CaptureForm) → ¬ HasMagic form o) → number_at BigEndian 4 o 0 ≢ 0x0a0d0d0a → why ≡ cause.CaptureHeader → StartFault z why o
  ends_in_header : (form : CaptureForm) → 4 ≤ length o → HasMagic form o → length o < 24 → EndsBy z why → StartFault z why o
  no_header : (form : CaptureForm) → 24 ≤ length o → HasMagic form o → ¬ IsClassicHeader form (take 24 o) → why ≡ cause.CaptureHeader → StartFault z why o
  in_first_section : 4 ≤ length o → number_at BigEndian 4 o 0 ≡ 0x0a0d0d0a → SectionFault z cause.CaptureHeader why o → StartFault z why o

-- The first fault behind as many whole records or blocks as came, of so many that may come: reading failed before the next; or there is a next, and none may come; or the next has it.
pub data NextFault (z : InputEnd) (came most : ℕ) (HasFault : CaptureCause → List ℕ → Type 0) (why : CaptureCause) (rest : List ℕ) : Type 0 where
  before_next : came ≤ most → rest ≡ [] → z ≡ Failed → why ≡ cause.ReadFailed → NextFault z came most HasFault why rest
  too_many : came ≡ most → 0 < length rest → why ≡ cause.TooManyRecords → NextFault z came most HasFault why rest
  in_next : came < most → 0 < length rest → HasFault why rest → NextFault z came most HasFault why rest

-- a header of the classic form and whole records, and what follows them
pub record BehindRecords (form : CaptureForm) (rs : List CaptureRecord) (rest o : List ℕ) : Type 0 where
  pub header : List ℕ
  pub records : List ℕ
  pub parts : o ≡ header ++ (records ++ rest)
  pub is_header : IsClassicHeader form header
  pub are_records : SpellsRecords form rs records

-- a section header and whole blocks, and what follows them
pub record BehindBlocks (order : OctetOrder) (bs : List Block) (rest o : List ℕ) : Type 0 where
  pub header : List ℕ
  pub blocks : List ℕ
  pub parts : o ≡ header ++ (blocks ++ rest)
  pub type : number_at BigEndian 4 header 0 ≡ 0x0a0d0d0a
  pub is_header : IsSectionHeader order header
  pub are_blocks : SpellsBlocks (settled_after unsettled (begins order)) bs blocks

-- what is settled behind blocks
abbrev pub settled_behind : Settled → List Block → Settled
settled_behind s [] = s
settled_behind s (b ∷ bs) = settled_behind (settled_after s b) bs

-- The first fault of a capture, of which 999,999,999,999,999,998 records or blocks may come, and the packets before it: at its start, where its number is 0;
-- or behind whole records, or whole blocks, whose packets are those before it, and then its number is that of the packet that would come next.
pub data IsCaptureFault (z : InputEnd) (before : List (ℕ × Packet)) (f : CaptureFault) (o : List ℕ) : Type 0 where
  at_start : StartFault z f.cause o → f.number ≡ 0 → before ≡ [] → IsCaptureFault z before f o
  behind_records : (form : CaptureForm) (rs : List CaptureRecord) (rest : List ℕ) → BehindRecords form rs rest o → NextFault z (length rs) 999999999999999998 (RecordFault z form) f.cause rest →
      f.number ≡ length before + 1 → before ≡ (packets_of_records (whole_capture rs)).items → IsCaptureFault z before f o
  behind_blocks : (order : OctetOrder) (bs : List Block) (rest : List ℕ) → BehindBlocks order bs rest o →
      NextFault z (length bs + 1) 999999999999999998 (BlockFault z (settled_behind (settled_after unsettled (begins order)) bs)) f.cause rest →
      f.number ≡ length before + 1 → before ≡ (packets_said 0 bs).items → IsCaptureFault z before f o

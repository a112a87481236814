-- What private calls promise that read one thing: a header, a record, a block.
use Rattle.std.specs.Prelude.{◌≡◌, ◌<◌, ℕ, ◌+◌, ◌-◌, ◌==◌, List, [], ◌∷◌, ◌++◌, length, take, drop, Option, Some, None, Result, Ok, Err, nat_lt, if◌then◌else◌}
use Rattle.std.specs.Io.KnownBytes.{Consumes}
use Rattle.list_core.specs.declared.device.InputEnd.{InputEnd}
use Rattle.list_core.specs.declared.device.InputEnd.TheVariants.{Open}
use Rattle.list_core.specs.declared.event.Event.{Event}
use Rattle.list_core.specs.Device.{GivesOctets, OnlyOpen}
use Rattle.list_core.specs.Lines.{Stop, WhateverComes, unfinished, finished, faulty}
use Rattle.capture_core.specs.Numbers.{number_at}
use Rattle.capture_core.specs.Header.{form_of, header_of}
use Rattle.capture_core.specs.Capture.{captured_size, cut, ended, fault_in, moment_in_head}
use Rattle.capture_core.specs.Packets.{Packet, StopsInside, event_of}
use Rattle.capture_core.specs.Blocks.{Block, begins, captures, describes, passes, section_header}
use Rattle.capture_core.specs.Asked.{OnlyWhile}
use Rattle.capture_core.specs.computed.Sections.{IsSaidAs}
use Rattle.capture_core.specs.declared.form.CaptureForm.{CaptureForm}
use Rattle.capture_core.specs.declared.form.OctetOrder.{OctetOrder}
use Rattle.capture_core.specs.declared.form.OctetOrder.TheVariants.{BigEndian, LittleEndian}
use Rattle.capture_core.specs.declared.body.Said.{Said}
use Rattle.capture_core.specs.declared.start.Start.{Start}
use Rattle.capture_core.specs.declared.start.Start.TheVariants as start
use Rattle.list_core.specs.declared.read_error.ReadError.{ReadError}
use Rattle.list_core.specs.declared.read_error.ReadError.TheVariants as error
use Rattle.capture_core.specs.declared.capture_fault.CaptureFault.{CaptureFault}
use Rattle.capture_core.specs.declared.capture_fault.CaptureCause.{CaptureCause}
use Rattle.capture_core.specs.declared.capture_fault.CaptureCause.TheVariants as cause

-- ---- one thing at the front of octets

-- what stands at the front of octets and how many octets it has, or how the capture stops there
abbrev pub Front : Type 0 → Type 0
Front X = Result (X × ℕ) (Stop CaptureFault)

-- what is told of it: the thing, or how the capture stops, or that memory is wanted
abbrev pub Told : Type 0 → Type 0
Told X = Result X (Option (Stop CaptureFault))

-- the octets that a source gave for it
abbrev pub GivesFront : {X : Type 0} → Told X → Option (List ℕ) → Option (List ℕ) → List ℕ → Type 0
GivesFront (Ok x) old new given = Consumes old new given
GivesFront (Err why) old new given = GivesOctets old new given

-- whatever comes behind these octets, this stands at the front
abbrev pub StandsSo : {X : Type 0} → (InputEnd → List ℕ → Front X) → List ℕ → InputEnd → Told X → Type 0
StandsSo front octets w (Ok x) = WhateverComes w (λ y more. front y (octets ++ more) ≡ Ok (x, length octets))
StandsSo front octets w (Err (Some stop)) = WhateverComes w (λ y more. front y (octets ++ more) ≡ Err stop)
StandsSo front octets w (Err None) = Unit {0}

-- What stands at the front was read, of which these octets were held, and no octet behind it.
pub record ReadsFront {X : Type 0} (front : InputEnd → List ℕ → Front X) (held : List ℕ) (old : Option (List ℕ)) (z : InputEnd) (told : Told X) (new : Option (List ℕ)) (w : InputEnd) : Type 0 where
  pub given : List ℕ
  pub took : GivesFront told old new given
  pub only_open : OnlyOpen z given w
  pub asked : OnlyWhile (λ octets. front Open (held ++ octets) ≡ Err unfinished) given z w
  pub stands : StandsSo front (held ++ given) w told

-- what stands at the front is to be kept, or the capture stops inside it
abbrev pub IsKept : {X : Type 0} → (X → Type 0) → Front X → Type 0
IsKept Keeps (Ok x) = Keeps x.0
IsKept Keeps (Err stop) = StopsInside stop

-- what stands at the front is whole, and is to be kept
abbrev pub IsKeptWhole : {X : Type 0} → (X → Type 0) → Front X → Type 0
IsKeptWhole Keeps (Ok x) = Keeps x.0
IsKeptWhole Keeps (Err stop) = ⊥

-- These octets, of which there are some, have begun a thing that is to be kept, and the source is as open as before: whatever comes, it stands at the front, or the capture stops inside it; and with some octets it is whole.
pub record HasBegun {X : Type 0} (Keeps : X → Type 0) (front : InputEnd → List ℕ → Front X) (octets : List ℕ) (z w : InputEnd) : Type 0 where
  pub some : 0 < length octets
  pub stays : w ≡ z
  pub whatever : WhateverComes w (λ y more. IsKept Keeps (front y (octets ++ more)))
  pub more : List ℕ
  pub whole : IsKeptWhole Keeps (front Open (octets ++ more))

-- where memory is wanted, these octets have begun such a thing
abbrev pub KeepsFront : {X : Type 0} → (X → Type 0) → (InputEnd → List ℕ → Front X) → List ℕ → InputEnd → Told X → InputEnd → Type 0
KeepsFront Keeps front octets z (Ok x) w = Unit {0}
KeepsFront Keeps front octets z (Err (Some stop)) w = Unit {0}
KeepsFront Keeps front octets z (Err None) w = HasBegun Keeps front octets z w

-- What stands at the front was read, and memory was wanted only to keep it.
pub record ReadsToKeep {X : Type 0} (Keeps : X → Type 0) (front : InputEnd → List ℕ → Front X) (held : List ℕ) (old : Option (List ℕ)) (z : InputEnd) (told : Told X) (new : Option (List ℕ)) (w : InputEnd) : Type 0 where
  pub read : ReadsFront front held old z told new w
  pub keeps : KeepsFront Keeps front (held ++ read.given) z told w

-- the packet is a frame
abbrev pub IsFramePacket : Packet → Type 0
IsFramePacket p = (p.link_type ≡ 1) × (0 < length p.octets)

-- the block has a packet that is a frame
abbrev pub IsFrameBlock : Block → Type 0
IsFrameBlock (begins order) = ⊥
IsFrameBlock (describes i) = ⊥
IsFrameBlock (captures p) = IsFramePacket p
IsFrameBlock passes = ⊥

-- ---- a record of the classic form

-- the record that begins these octets, as a packet
abbrev pub record_front : CaptureForm → InputEnd → ℕ → List ℕ → Front Packet
record_front form z n octets =
    if nat_lt (length octets) 16 then Err (cut z n) else
    (if nat_lt 262144 (captured_size form octets) then Err (fault_in n cause.RecordLength) else
    (if nat_lt (length (drop 16 octets)) (captured_size form octets) then Err (cut z n) else
    Ok (record { moment = moment_in_head form octets; link_type = 1; octets = take (captured_size form octets) (drop 16 octets) }, 16 + captured_size form octets)))

-- the next record, or the capture's end
abbrev pub next_record : CaptureForm → InputEnd → ℕ → List ℕ → Front Packet
next_record form z n [] = Err (ended z n)
next_record form z n (x ∷ xs) = record_front form z n (x ∷ xs)

-- how a record is told
abbrev pub IsRecordEvent : {A : Type 0} → Told Packet → Result (Event A) (ReadError CaptureFault) → Type 0
IsRecordEvent told (Ok e) = (p : Packet) × (told ≡ Ok p) × (e ≡ event_of p) × (p.link_type ≡ 1)
IsRecordEvent told (Err (error.Fault f)) = told ≡ Err (Some (faulty f))
IsRecordEvent told (Err (error.Memory m)) = told ≡ Err None

-- how the next record is told, or the capture's end
abbrev pub IsNextEvent : {A : Type 0} → Told Packet → Result (Option (Event A)) (ReadError CaptureFault) → Type 0
IsNextEvent told (Ok None) = told ≡ Err (Some finished)
IsNextEvent told (Ok (Some e)) = (p : Packet) × (told ≡ Ok p) × (e ≡ event_of p) × (p.link_type ≡ 1)
IsNextEvent told (Err (error.Fault f)) = told ≡ Err (Some (faulty f))
IsNextEvent told (Err (error.Memory m)) = told ≡ Err None

-- ---- a block

-- the order in which the byte-order magic stands
abbrev pub order_of_magic : List ℕ → Option OctetOrder
order_of_magic magic = if number_at BigEndian 4 magic 0 == 0x1a2b3c4d then Some BigEndian else (if number_at LittleEndian 4 magic 0 == 0x1a2b3c4d then Some LittleEndian else None)

-- what follows the byte-order magic of a section header says
abbrev pub version_rest : OctetOrder → CaptureCause → ℕ → List ℕ → Result Block CaptureCause
version_rest order why total rest = if number_at order 4 rest (total - 16) == total then (if number_at order 2 rest 0 == 1 then Ok (begins order) else Err why) else Err cause.BlockLength

-- a section begins, or its header is refused
abbrev pub IsVersionTold : {T : Type 0} → OctetOrder → Result T CaptureCause → Result Block CaptureCause → Type 0
IsVersionTold order (Ok t) b = b ≡ Ok (begins order)
IsVersionTold order (Err why) b = b ≡ Err why

-- the order of a section, or its fault
abbrev pub section_told : Result OctetOrder CaptureFault → Told Block
section_told (Ok order) = Ok (begins order)
section_told (Err f) = Err (Some (faulty f))

-- how a block is told
abbrev pub IsBlockTold : {A : Type 0} → Told Block → Result (Said A) (ReadError CaptureFault) → Type 0
IsBlockTold told (Ok said) = (b : Block) × (told ≡ Ok b) × IsSaidAs (Ok said) (Ok b)
IsBlockTold told (Err (error.Fault f)) = told ≡ Err (Some (faulty f))
IsBlockTold told (Err (error.Memory e)) = told ≡ Err None

-- how the next block is told, or the capture's end
abbrev pub IsNextBlock : {A : Type 0} → Told Block → Result (Option (Said A)) (ReadError CaptureFault) → Type 0
IsNextBlock told (Ok None) = told ≡ Err (Some finished)
IsNextBlock told (Ok (Some said)) = (b : Block) × (told ≡ Ok b) × IsSaidAs (Ok said) (Ok b)
IsNextBlock told (Err (error.Fault f)) = told ≡ Err (Some (faulty f))
IsNextBlock told (Err (error.Memory e)) = told ≡ Err None

-- ---- the start of a capture

-- a header of the classic form that is read
abbrev pub classic_form : Option CaptureForm → Front Start
classic_form None = Err (fault_in 0 cause.CaptureHeader)
classic_form (Some form) = Ok (start.Records form, 24)

-- the header of the classic form that begins these octets
abbrev pub classic_front : InputEnd → List ℕ → Front Start
classic_front z octets = if nat_lt (length octets) 24 then Err (cut z 0) else classic_form (header_of (take 24 octets))

-- the order of a section that begins
abbrev pub start_of_block : Front Block → Front Start
start_of_block (Err stop) = Err stop
start_of_block (Ok (begins order, size)) = Ok (start.Blocks order, size)
start_of_block (Ok (b, size)) = Err (fault_in 0 cause.CaptureHeader)

-- the start by the first four octets
abbrev pub start_by_magic : Option CaptureForm → InputEnd → List ℕ → Front Start
start_by_magic None z octets = if number_at BigEndian 4 octets 0 == 0x0a0d0d0a then start_of_block (section_header z 0 cause.CaptureHeader octets) else Err (fault_in 0 cause.CaptureHeader)
start_by_magic (Some form) z octets = classic_front z octets

-- the start of a capture
abbrev pub capture_front : InputEnd → List ℕ → Front Start
capture_front z octets = if nat_lt (length octets) 4 then Err (cut z 0) else start_by_magic (form_of (take 4 octets)) z octets

-- a header of the classic form, or its fault
abbrev pub form_told : Result CaptureForm CaptureFault → Told Start
form_told (Ok form) = Ok (start.Records form)
form_told (Err f) = Err (Some (faulty f))

-- a start, or its fault
abbrev pub start_told : Result Start CaptureFault → Told Start
start_told (Ok s) = Ok s
start_told (Err f) = Err (Some (faulty f))

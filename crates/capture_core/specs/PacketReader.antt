-- What the answers of a reader of packets say of its capture.
use Rattle.std.specs.Prelude.{◌≡◌, ◌⊎◌, ℕ, ◌+◌, List, [], ◌∷◌, ◌++◌, length, Option, Some, None, Ok, Err}
use Rattle.std.specs.Io.KnownBytes.{Consumes}
use Rattle.list_core.specs.declared.device.InputEnd.{InputEnd}
use Rattle.list_core.specs.declared.device.InputEnd.TheVariants.{Open}
use Rattle.list_core.specs.declared.event.Event.{Event}
use Rattle.list_core.specs.declared.event.EventKind.{EventKind}
use Rattle.list_core.specs.declared.event.EventKind.TheVariants as kinds
use Rattle.list_core.specs.Device.{GivesOctets, OnlyOpen}
use Rattle.list_core.specs.Lines.{CanFollow, Stop, WhateverComes, unfinished, finished, faulty}
use Rattle.capture_core.specs.Capture.{records_of}
use Rattle.tally_core.specs.Tally.{Tally, count_all}
use Rattle.capture_core.specs.Packets.{Packet, Numbered, StopsInside, stopped, put_numbered, event_of, events_of, other_link, packets_of_records, stop_of}
use Rattle.capture_core.specs.Blocks.{Settled, describes, next_block, packets_of_blocks}
use Rattle.capture_core.specs.Asked.{OnlyWhile}
use Rattle.capture_core.specs.Captured.{captured_packets}
use Rattle.capture_core.specs.declared.form.CaptureForm.{CaptureForm}
use Rattle.capture_core.specs.declared.capture_fault.CaptureFault.{CaptureFault}
use Rattle.list_core.specs.ReadItems.{AnswerOf}
use Rattle.capture_core.specs.declared.packet_reader.PacketReader.{PacketReader}
use Rattle.capture_core.specs.declared.packet_reader.Progress.{Progress}
use Rattle.capture_core.specs.declared.packet_reader.Progress.TheVariants as progress
use Rattle.capture_core.specs.declared.interface.Interface.{Interface}

-- ---- the state of a reader

-- what of a capture was read: nothing; the header of the classic form, and some records; some blocks, which settled this; or all, and how it stopped
pub data Stage : Type 0 where
  at_start : Stage
  in_records : CaptureForm → Stage
  in_blocks : Settled → Stage
  over : Stop CaptureFault → Stage

-- a capture that is being read: what the source has left and how it ends, how many packets were answered, how many records or blocks may still come, what was read,
-- and the tally of the packets answered that were not captured on Ethernet, by their link types
pub record PacketState : Type 0 where
  pub left : Option (List ℕ)
  pub ending : InputEnd
  pub answered : ℕ
  pub most : ℕ
  pub stage : Stage
  pub other_links : Tally

-- the packets of these octets, behind n packets and what was read, where so many records or blocks may come
abbrev pub packets_from : Stage → ℕ → ℕ → InputEnd → List ℕ → Numbered Packet
packets_from at_start n most z octets = captured_packets z octets
packets_from (in_records form) n most z octets = packets_of_records (records_of form z n most octets)
packets_from (in_blocks s) n most z octets = packets_of_blocks z s n most octets
packets_from (over stop) n most z octets = stopped stop

-- the packets of a capture from this state on, where the source still gives these octets
abbrev pub packets_behind : PacketState → InputEnd → List ℕ → Numbered Packet
packets_behind s z octets = packets_from s.stage s.answered s.most z octets

-- the events of a capture from this state on
abbrev pub events_behind : {A : Type 0} → PacketState → InputEnd → List ℕ → Numbered (Event A)
events_behind s z octets = events_of (packets_behind s z octets)

-- how many headers, records or blocks may still come
abbrev pub things_in : Stage → ℕ → ℕ
things_in at_start most = 999999999999999999
things_in (in_records form) most = most
things_in (in_blocks s) most = most
things_in (over stop) most = most

-- how many headers, records or blocks may still come in this state
abbrev pub things_left : PacketState → ℕ
things_left s = things_in s.stage s.most

-- what the progress of a reader stands for, with the interfaces of the section and the moment of the last packet
abbrev pub stage_of : Progress → List Interface → ℕ → Stage
stage_of progress.Nothing is m = at_start
stage_of (progress.Records form) is m = in_records form
stage_of (progress.Blocks order) is m = in_blocks (record { order = order; interfaces = is; moment = m })
stage_of (progress.Over fault) is m = over (stop_of fault)
stage_of progress.GivenUp is m = over unfinished

-- what a reader of packets stands for
abbrev pub packet_state : {R A : Type 0} → (R → Option (List ℕ)) → (R → InputEnd) → PacketReader R A → PacketState
packet_state left ending r = record { left = left r.reader; ending = ending r.reader; answered = r.answered; most = r.most; stage = stage_of r.progress r.interfaces.items r.moment; other_links = r.other_links }

-- the number of the packet last answered or refused, by what was read
abbrev pub number_by : Progress → ℕ → ℕ
number_by progress.Nothing n = 0
number_by (progress.Records form) n = n
number_by (progress.Blocks order) n = n
number_by (progress.Over None) n = n
number_by (progress.Over (Some f)) n = f.number
number_by progress.GivenUp n = n

-- the number of the packet last answered or refused, 0 before the first
abbrev pub packet_number : {R A : Type 0} → PacketReader R A → ℕ
packet_number r = number_by r.progress r.answered

-- ---- its answers

-- an answer of a reader of packets: an event with the number of its packet, the end, a fault, or want of memory
abbrev pub PacketAnswer : Type 0 → Type 0
PacketAnswer A = AnswerOf (Event A) CaptureFault

-- what an answer says of the capture before it and the capture after it: an event is taken off, the end and a fault stay, and after want of memory nothing more is told
abbrev pub TellsPacket : {A : Type 0} → PacketAnswer A → Numbered (Event A) → Numbered (Event A) → Type 0
TellsPacket (Ok (Some e)) whole rest = whole ≡ put_numbered e rest
TellsPacket (Ok None) whole rest = (whole ≡ stopped finished) × (rest ≡ whole)
TellsPacket (Err (Some f)) whole rest = (whole ≡ stopped (faulty f)) × (rest ≡ whole)
TellsPacket (Err None) whole rest = rest ≡ stopped unfinished

-- what an answer says of the packets of the capture before it and after it, and of the tally of those not captured on Ethernet: the packet of an event is taken off, and is counted
-- if it is one of them; after any other answer the tally is as before
abbrev pub CountsPacket : {A : Type 0} → PacketAnswer A → Numbered Packet → Numbered Packet → Tally → Tally → Type 0
CountsPacket (Ok (Some e)) whole rest old new = (p : Packet) × (e.1 ≡ event_of p) × (whole ≡ put_numbered (e.0, p) rest) × (new ≡ count_all (other_link e.0 p.link_type) old)
CountsPacket (Ok None) whole rest old new = new ≡ old
CountsPacket (Err f) whole rest old new = new ≡ old

-- the octets that a source gave for an answer; only after an event does it tell what is left, if it told it before
abbrev pub GivesPacket : {A : Type 0} → PacketAnswer A → Option (List ℕ) → Option (List ℕ) → List ℕ → Type 0
GivesPacket (Ok (Some e)) old new given = Consumes old new given
GivesPacket (Ok None) old new given = GivesOctets old new given
GivesPacket (Err f) old new given = GivesOctets old new given

-- the number of the packet last answered or refused, after an answer
abbrev pub packet_number_told : {A : Type 0} → PacketAnswer A → ℕ → ℕ
packet_number_told (Ok None) n = n
packet_number_told (Ok (Some e)) n = e.0
packet_number_told (Err (Some f)) n = f.number
packet_number_told (Err None) n = n

-- the event is a frame
abbrev pub IsFrame : {A : Type 0} → EventKind A → Type 0
IsFrame (kinds.Frame octets) = Unit {0}
IsFrame kinds.Clock = ⊥
IsFrame (kinds.Mode on) = ⊥

-- the first of these events is a frame; or there is none, and they stop as they can inside one
abbrev pub BeginsWithFrame : {A : Type 0} → List (ℕ × Event A) → Stop CaptureFault → Type 0
BeginsWithFrame [] stop = StopsInside stop
BeginsWithFrame (e ∷ es) stop = IsFrame e.1.kind

-- what a capture tells next is a frame, or that it stops inside one
abbrev pub NextIsFrame : {A : Type 0} → Numbered (Event A) → Type 0
NextIsFrame l = BeginsWithFrame l.items l.stop

-- the first of these events is a frame
abbrev pub FirstIsFrame : {A : Type 0} → List (ℕ × Event A) → Type 0
FirstIsFrame [] = ⊥
FirstIsFrame (e ∷ es) = IsFrame e.1.kind

-- what a capture tells next is a frame
abbrev pub TellsFrameNext : {A : Type 0} → Numbered (Event A) → Type 0
TellsFrameNext l = FirstIsFrame l.items

-- this is so of something that can still come after a source told this ending
abbrev pub SomethingComes : InputEnd → (InputEnd → List ℕ → Type 0) → Type 0
SomethingComes ending Is = (more : List ℕ) × (z : InputEnd) × CanFollow ending more z × Is z more

-- these octets have begun a frame: whatever comes, it is told next, or that the capture stops inside it; and with some octets it is told
abbrev pub HaveBegunFrame : {A : Type 0} → InputEnd → (InputEnd → List ℕ → Numbered (Event A)) → Type 0
HaveBegunFrame w next = WhateverComes w (λ z more. NextIsFrame (next z more)) × SomethingComes w (λ z more. TellsFrameNext (next z more))

-- Of these octets the last are a block that describes an interface: whatever comes, the packets behind those before it are those of the blocks from it on.
pub record DescribesInterface (old : PacketState) (given : List ℕ) (w : InputEnd) : Type 0 where
  pub front : List ℕ
  pub block : List ℕ
  pub parts : given ≡ front ++ block
  -- what is settled before the block, how many packets are before it, and how many blocks may come
  pub settled : Settled
  pub packets : ℕ
  pub most : ℕ
  pub behind : WhateverComes w (λ z more. packets_behind old z (given ++ more) ≡ packets_of_blocks z settled packets most (block ++ more))
  pub interface : Interface
  pub is_interface : WhateverComes w (λ z more. next_block z (packets + 1) settled (block ++ more) ≡ Ok (describes interface, length block))

-- memory is wanted only to keep a frame, which these octets have begun, or an interface; or it was wanted before, and nothing is told any more
abbrev pub KeepsPacket : {A : Type 0} → PacketAnswer A → PacketState → List ℕ → InputEnd → Type 0
KeepsPacket (Ok o) old given w = Unit {0}
KeepsPacket (Err (Some f)) old given w = Unit {0}
KeepsPacket {A} (Err None) old given w =
    HaveBegunFrame w (λ z more. events_behind {A = A} old z (given ++ more)) ⊎ DescribesInterface old given w
    ⊎ WhateverComes w (λ z more. packets_behind old z (given ++ more) ≡ stopped unfinished)

-- An answer takes its packet off the front of the capture. The end and a fault stay; want of memory ends it. Octets are asked for only while those before them tell neither a packet nor how the capture stops.
pub record AnswersPacket {A : Type 0} (old : PacketState) (answer : PacketAnswer A) (new : PacketState) : Type 0 where
  pub given : List ℕ
  pub took : GivesPacket answer old.left new.left given
  pub only_open : OnlyOpen old.ending given new.ending
  pub asked : OnlyWhile (λ front. events_behind {A = A} old Open front ≡ stopped unfinished) given old.ending new.ending
  pub kept : KeepsPacket answer old given new.ending
  -- whatever still comes, the answer is what the capture tells first
  pub reads : WhateverComes new.ending (λ z more. TellsPacket answer (events_behind old z (given ++ more)) (events_behind new z more))
  -- and its packet is counted, if it was not captured on Ethernet
  pub counted : WhateverComes new.ending (λ z more. CountsPacket answer (packets_behind old z (given ++ more)) (packets_behind new z more) old.other_links new.other_links)

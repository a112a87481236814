-- A capture as packets, each with its number, and how they stop.
use Rattle.std.specs.Prelude.{◌≡◌, ◌⊎◌, ℕ, Bool, true, false, ◌==◌, List, [], ◌∷◌, map, Option, Some, None, if◌then◌else◌}
use Rattle.std.specs.List.{flat_map}
use Rattle.list_core.specs.Items as listed
use Rattle.list_core.specs.Lines.{Stop, finished, unfinished, faulty}
use Rattle.list_core.specs.declared.event.Event.{Event}
use Rattle.list_core.specs.declared.event.EventKind.{EventKind}
use Rattle.list_core.specs.declared.event.EventKind.TheVariants.{Frame, Clock}
use Rattle.capture_core.specs.Capture.{Capture, CaptureRecord}
use Rattle.capture_core.specs.declared.capture_fault.CaptureCause.{CaptureCause}
use Rattle.capture_core.specs.declared.capture_fault.CaptureCause.TheVariants as cause
use Rattle.capture_core.specs.declared.capture_fault.CaptureFault.{CaptureFault}

-- a packet: the moment at which it was captured, in microseconds since 1970, the type of its link, and the captured octets
pub record Packet : Type 0 where
  pub moment : ℕ
  pub link_type : ℕ
  pub octets : List ℕ

-- things with their numbers, up to the first fault of a capture, and how they stop
abbrev pub Numbered : Type 0 → Type 0
Numbered X = listed.Numbered X CaptureFault

-- nothing before this stop
abbrev pub stopped : {X : Type 0} → Stop CaptureFault → Numbered X
stopped s = listed.stops s

-- how a capture stops at its end, or by its first fault
abbrev pub stop_of : Option CaptureFault → Stop CaptureFault
stop_of None = finished
stop_of (Some f) = faulty f

-- whether a capture stops by this cause since its source failed
abbrev pub is_by_source : CaptureCause → Bool
is_by_source cause.ReadFailed = true
is_by_source cause.CaptureHeader = false
is_by_source cause.CaptureShort = false
is_by_source cause.RecordLength = false
is_by_source cause.TooManyRecords = false
is_by_source cause.BlockForm = false
is_by_source cause.BlockLength = false
is_by_source cause.Interface = false
is_by_source cause.PacketTime = false

-- whether a capture gives no further packet since its source failed
abbrev pub is_failed_read : CaptureFault → Bool
is_failed_read f = is_by_source f.cause

-- a capture can stop so inside a frame whose head is good: the octets end, for now or for good, or the total length behind them is another
abbrev pub StopsInside : Stop CaptureFault → Type 0
StopsInside finished = ⊥
StopsInside unfinished = Unit {0}
StopsInside (faulty f) = (f.cause ≡ cause.CaptureShort) ⊎ (f.cause ≡ cause.ReadFailed) ⊎ (f.cause ≡ cause.BlockLength)

-- one thing with its number before the others
abbrev pub put_numbered : {X : Type 0} → ℕ × X → Numbered X → Numbered X
put_numbered e l = listed.put_item e l

-- what happened where such octets were captured on such a link: a frame, if the link is Ethernet, type 1, and there are any; else only time has passed
abbrev pub kind_of : {A : Type 0} → ℕ → List ℕ → EventKind A
kind_of link [] = Clock
kind_of link (x ∷ xs) = if link == 1 then Frame (x ∷ xs) else Clock

-- the event of a packet
abbrev pub event_of : {A : Type 0} → Packet → Event A
event_of p = record { moment = p.moment; kind = kind_of p.link_type p.octets }

-- the events of packets, with the packets' numbers
abbrev pub events_of : {A : Type 0} → Numbered Packet → Numbered (Event A)
events_of l = record { items = map (λ p. (p.0, event_of p.1)) l.items; stop = l.stop }

-- the number of a packet and the type of its link, if that is not Ethernet
abbrev pub other_link : ℕ → ℕ → List (ℕ × ℕ)
other_link number link = if link == 1 then [] else (number, link) ∷ []

-- the numbers and link types of those packets that were not captured on Ethernet
abbrev pub other_links_in : List (ℕ × Packet) → List (ℕ × ℕ)
other_links_in ps = flat_map (λ p. other_link p.0 p.1.link_type) ps

-- the packet of a record of the classic form, which is on Ethernet
abbrev pub packet_of_record : CaptureRecord → Packet
packet_of_record r = record { moment = r.moment; link_type = 1; octets = r.octets }

-- the packets of the records of the classic form
abbrev pub packets_of_records : Capture → Numbered Packet
packets_of_records c = record { items = map (λ r. (r.0, packet_of_record r.1)) c.records; stop = c.stop }

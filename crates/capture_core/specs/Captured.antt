-- What a capture says, in the classic form of libpcap or in pcapng: its packets, and how they stop.
use Rattle.std.specs.Prelude.{ℕ, ◌==◌, List, [], length, take, drop, Option, Some, None, Ok, Err, nat_lt, if◌then◌else◌}
use Rattle.list_core.specs.declared.device.InputEnd.{InputEnd}
use Rattle.list_core.specs.declared.event.Event.{Event}
use Rattle.capture_core.specs.Numbers.{number_at}
use Rattle.capture_core.specs.Header.{form_of, header_of}
use Rattle.capture_core.specs.Capture.{cut, fault_in, records_of}
use Rattle.capture_core.specs.Packets.{Packet, Numbered, stopped, events_of, packets_of_records}
use Rattle.capture_core.specs.Blocks.{Settled, BlockRead, packets_of_blocks, section_header, settled_after}
use Rattle.capture_core.specs.declared.form.CaptureForm.{CaptureForm}
use Rattle.capture_core.specs.declared.form.OctetOrder.TheVariants.{BigEndian}
use Rattle.capture_core.specs.declared.capture_fault.CaptureCause.TheVariants.{CaptureHeader}

-- the packets behind a header of the classic form, of which so many may come
abbrev pub packets_behind_header : Option CaptureForm → InputEnd → ℕ → List ℕ → Numbered Packet
packets_behind_header None z most octets = stopped (fault_in 0 CaptureHeader)
packets_behind_header (Some form) z most octets = packets_of_records (records_of form z 0 most octets)

-- a capture in the classic form
abbrev pub classic_packets : InputEnd → List ℕ → Numbered Packet
classic_packets z octets = if nat_lt (length octets) 24 then stopped (cut z 0) else packets_behind_header (header_of (take 24 octets)) z 999999999999999998 (drop 24 octets)

-- what is settled before the first section
abbrev pub unsettled : Settled
unsettled = record { order = BigEndian; interfaces = []; moment = 0 }

-- the packets behind the first section header; so many blocks may come
abbrev pub packets_behind_section : BlockRead → InputEnd → ℕ → List ℕ → Numbered Packet
packets_behind_section (Err stop) z most octets = stopped stop
packets_behind_section (Ok b) z most octets = packets_of_blocks z (settled_after unsettled b.0) 0 most (drop b.1 octets)

-- a capture in the form pcapng: its first block is a section header
abbrev pub section_packets : InputEnd → List ℕ → Numbered Packet
section_packets z octets = packets_behind_section (section_header z 0 CaptureHeader octets) z 999999999999999997 octets

-- a capture that does not begin with a magic number of the classic form
abbrev pub packets_by_magic : Option CaptureForm → InputEnd → List ℕ → Numbered Packet
packets_by_magic None z octets = if number_at BigEndian 4 octets 0 == 0x0a0d0d0a then section_packets z octets else stopped (fault_in 0 CaptureHeader)
packets_by_magic (Some form) z octets = classic_packets z octets

-- the packets of a capture, whose form its first four octets tell; it has at most 999,999,999,999,999,998 records or blocks
abbrev pub captured_packets : InputEnd → List ℕ → Numbered Packet
captured_packets z octets = if nat_lt (length octets) 4 then stopped (cut z 0) else packets_by_magic (form_of (take 4 octets)) z octets

-- the events of a capture, each with the number of its packet
abbrev pub captured_events : {A : Type 0} → InputEnd → List ℕ → Numbered (Event A)
captured_events z octets = events_of (captured_packets z octets)

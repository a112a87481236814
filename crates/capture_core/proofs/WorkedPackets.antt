-- Captures in both forms written out, computed: a wrong definition does not check.
use Rattle.std.proofs.Common.{◌≡◌, ℕ, List, [], ◌∷◌, ◌++◌, Some, None, refl}
use Rattle.list_core.specs.declared.device.InputEnd.TheVariants.{Open, End, Failed}
use Rattle.list_core.specs.Lines.{finished, unfinished}
use Rattle.capture_core.specs.declared.capture_fault.CaptureCause.TheVariants as cause
use Rattle.capture_core.specs.Numbers.{number_at}
use Rattle.capture_core.specs.Capture.{fault_in, records_of}
use Rattle.capture_core.specs.Packets.{Packet, stopped}
use Rattle.capture_core.specs.Interfaces.{moment_after, plain_interface, with_options}
use Rattle.capture_core.specs.Blocks.{packets_of_blocks}
use Rattle.capture_core.specs.Captured.{captured_packets}

-- ---- blocks, least significant octet first

-- a section header: its type, 28, the byte-order magic, version 1.0, a length that is not looked at, 28
abbrev pub section : List ℕ
section = 0x0a ∷ 0x0d ∷ 0x0d ∷ 0x0a ∷ 28 ∷ 0 ∷ 0 ∷ 0 ∷ 0x4d ∷ 0x3c ∷ 0x2b ∷ 0x1a ∷ 1 ∷ 0 ∷ 0 ∷ 0 ∷ 255 ∷ 255 ∷ 255 ∷ 255 ∷ 255 ∷ 255 ∷ 255 ∷ 255 ∷ 28 ∷ 0 ∷ 0 ∷ 0 ∷ []

-- the same, most significant octet first
abbrev big_section : List ℕ
big_section = 0x0a ∷ 0x0d ∷ 0x0d ∷ 0x0a ∷ 0 ∷ 0 ∷ 0 ∷ 28 ∷ 0x1a ∷ 0x2b ∷ 0x3c ∷ 0x4d ∷ 0 ∷ 1 ∷ 0 ∷ 0 ∷ 0 ∷ 0 ∷ 0 ∷ 0 ∷ 0 ∷ 0 ∷ 0 ∷ 0 ∷ 0 ∷ 0 ∷ 0 ∷ 28 ∷ []

-- an interface of this link type, without options
abbrev pub interface : ℕ → List ℕ
interface link = 1 ∷ 0 ∷ 0 ∷ 0 ∷ 20 ∷ 0 ∷ 0 ∷ 0 ∷ link ∷ 0 ∷ 0 ∷ 0 ∷ 2 ∷ 0 ∷ 0 ∷ 0 ∷ 20 ∷ 0 ∷ 0 ∷ 0 ∷ []

-- one on Ethernet, of which an option (code 9, one octet) says the resolution, and no snapshot length is stated
abbrev pub resolved : ℕ → List ℕ
resolved r = 1 ∷ 0 ∷ 0 ∷ 0 ∷ 28 ∷ 0 ∷ 0 ∷ 0 ∷ 1 ∷ 0 ∷ 0 ∷ 0 ∷ 0 ∷ 0 ∷ 0 ∷ 0 ∷ 9 ∷ 0 ∷ 1 ∷ 0 ∷ r ∷ 0 ∷ 0 ∷ 0 ∷ 28 ∷ 0 ∷ 0 ∷ 0 ∷ []

-- an enhanced packet of this interface after 5,999 ticks: one octet of nine, and its padding; then this total length
abbrev pub packet : ℕ → ℕ → List ℕ
packet i end = 6 ∷ 0 ∷ 0 ∷ 0 ∷ 36 ∷ 0 ∷ 0 ∷ 0 ∷ i ∷ 0 ∷ 0 ∷ 0 ∷ 0 ∷ 0 ∷ 0 ∷ 0 ∷ 0x6f ∷ 0x17 ∷ 0 ∷ 0 ∷ 1 ∷ 0 ∷ 0 ∷ 0 ∷ 9 ∷ 0 ∷ 0 ∷ 0 ∷ 0xaa ∷ 0 ∷ 0 ∷ 0 ∷ end ∷ 0 ∷ 0 ∷ 0 ∷ []

-- a simple packet of three octets on the wire
abbrev pub simple : List ℕ
simple = 3 ∷ 0 ∷ 0 ∷ 0 ∷ 20 ∷ 0 ∷ 0 ∷ 0 ∷ 3 ∷ 0 ∷ 0 ∷ 0 ∷ 1 ∷ 2 ∷ 3 ∷ 0 ∷ 20 ∷ 0 ∷ 0 ∷ 0 ∷ []

-- a block of another type
abbrev pub other : List ℕ
other = 9 ∷ 0 ∷ 0 ∷ 0 ∷ 16 ∷ 0 ∷ 0 ∷ 0 ∷ 1 ∷ 2 ∷ 3 ∷ 4 ∷ 16 ∷ 0 ∷ 0 ∷ 0 ∷ []

-- the packet of one octet at a moment
abbrev pub one : ℕ → ℕ → Packet
one moment link = record { moment = moment; link_type = link; octets = 0xaa ∷ [] }

pub record AreSections : Type 0 where
  pub alone : captured_packets End section ≡ stopped finished
  pub big_alone : captured_packets End big_section ≡ stopped finished
  -- a block of another type has no number; an interface of nanoseconds; a simple packet has the moment before, and is not cut where no snapshot length is stated
  pub packets : captured_packets End (section ++ (resolved 9 ++ (packet 0 36 ++ (other ++ simple)))) ≡
      record { items = (1, one 5 1) ∷ (2, record { moment = 5; link_type = 1; octets = 1 ∷ 2 ∷ 3 ∷ [] }) ∷ []; stop = finished }
  -- a snapshot length of two octets, another link, microseconds
  pub snapped : captured_packets End (section ++ (interface 113 ++ (simple ++ packet 0 36))) ≡
      record { items = (1, record { moment = 0; link_type = 113; octets = 1 ∷ 2 ∷ [] }) ∷ (2, one 5999 113) ∷ []; stop = finished }
  -- a later section has no interface yet, and other numbers
  pub fresh : captured_packets End (section ++ (interface 1 ++ (section ++ packet 0 36))) ≡ stopped (fault_in 1 cause.Interface)
  pub orders : captured_packets End (section ++ (interface 1 ++ (big_section ++ packet 0 36))) ≡ stopped (fault_in 1 cause.BlockLength)
  -- a packet whose length behind the body is another gives no event
  pub wrong_end : captured_packets End (section ++ (interface 1 ++ packet 0 35)) ≡ stopped (fault_in 1 cause.BlockLength)
  pub cut_end : captured_packets End (section ++ (interface 1 ++ (packet 0 36 ++ 6 ∷ 0 ∷ []))) ≡ record { items = (1, one 5999 1) ∷ []; stop = fault_in 2 cause.CaptureShort }
  pub open_end : captured_packets Open (section ++ (interface 1 ++ (packet 0 36 ++ 6 ∷ 0 ∷ []))) ≡ record { items = (1, one 5999 1) ∷ []; stop = unfinished }
  pub failed_end : captured_packets Failed (section ++ (interface 1 ++ packet 0 36)) ≡ record { items = (1, one 5999 1) ∷ []; stop = fault_in 2 cause.ReadFailed }
  -- a total length is judged before its body comes
  pub long : captured_packets Open (section ++ (9 ∷ 0 ∷ 0 ∷ 0 ∷ 4 ∷ 0 ∷ 0 ∷ 1 ∷ [])) ≡ stopped (fault_in 1 cause.BlockLength)
  -- the first four octets decide
  pub few : captured_packets End (0x0a ∷ 0x0d ∷ 0x0d ∷ []) ≡ stopped (fault_in 0 cause.CaptureShort)
  pub none : captured_packets Open (0x1f ∷ 0x8b ∷ 8 ∷ 0 ∷ []) ≡ stopped (fault_in 0 cause.CaptureHeader)
  pub no_magic : captured_packets End (0x0a ∷ 0x0d ∷ 0x0d ∷ 0x0a ∷ 28 ∷ 0 ∷ 0 ∷ 0 ∷ 1 ∷ 2 ∷ 3 ∷ 4 ∷ []) ≡ stopped (fault_in 0 cause.CaptureHeader)
  pub later_magic : captured_packets End (section ++ (0x0a ∷ 0x0d ∷ 0x0d ∷ 0x0a ∷ 28 ∷ 0 ∷ 0 ∷ 0 ∷ 1 ∷ 2 ∷ 3 ∷ 4 ∷ [])) ≡ stopped (fault_in 1 cause.BlockForm)

pub are_sections : AreSections
unfolding number_at with_options packets_of_blocks
are_sections = record {
  alone = refl;
  big_alone = refl;
  packets = refl;
  snapped = refl;
  fresh = refl;
  orders = refl;
  wrong_end = refl;
  cut_end = refl;
  open_end = refl;
  failed_end = refl;
  long = refl;
  few = refl;
  none = refl;
  no_magic = refl;
  later_magic = refl;
}

-- ---- times

pub record AreTimes : Type 0 where
  -- 1/1,024 of a second; ten to the power -20; of any sign
  pub binary : moment_after (record { link_type = 1; snapshot_length = 0; resolution = 138; offset = 0 }) 1025 ≡ Some 1000976
  pub fine : moment_after (record { link_type = 1; snapshot_length = 0; resolution = 20; offset = 0 }) 18446744073709551615 ≡ Some 184467
  pub finest : moment_after (record { link_type = 1; snapshot_length = 0; resolution = 127; offset = 0 }) 18446744073709551615 ≡ Some 0
  pub hour : moment_after (record { link_type = 1; snapshot_length = 0; resolution = 6; offset = 3600 }) 5 ≡ Some 3600000005
  pub back : moment_after (record { link_type = 1; snapshot_length = 0; resolution = 0; offset = 18446744073709551614 }) 2 ≡ Some 0
  pub before : moment_after (record { link_type = 1; snapshot_length = 0; resolution = 6; offset = 18446744073709551615 }) 999999 ≡ None
  pub last : moment_after (plain_interface 1 0) 999999999999999999 ≡ Some 999999999999999999
  pub after : moment_after (plain_interface 1 0) 1000000000000000000 ≡ None

pub are_times : AreTimes
are_times = record { binary = refl; fine = refl; finest = refl; hour = refl; back = refl; before = refl; last = refl; after = refl }

-- ---- the classic form, in which a record without octets is a packet too

abbrev pub classic : List ℕ
classic = 0xd4 ∷ 0xc3 ∷ 0xb2 ∷ 0xa1 ∷ 2 ∷ 0 ∷ 4 ∷ 0 ∷ 0 ∷ 0 ∷ 0 ∷ 0 ∷ 0 ∷ 0 ∷ 0 ∷ 0 ∷ 0xff ∷ 0xff ∷ 0 ∷ 0 ∷ 1 ∷ 0 ∷ 0 ∷ 0 ∷ []

pub record AreClassic : Type 0 where
  pub records : captured_packets End (classic ++ (1 ∷ 0 ∷ 0 ∷ 0 ∷ 2 ∷ 0 ∷ 0 ∷ 0 ∷ 1 ∷ 0 ∷ 0 ∷ 0 ∷ 9 ∷ 0 ∷ 0 ∷ 0 ∷ 0xaa ∷ [])) ≡ record { items = (1, one 1000002 1) ∷ []; stop = finished }
  pub short : captured_packets End (0xd4 ∷ 0xc3 ∷ 0xb2 ∷ 0xa1 ∷ []) ≡ stopped (fault_in 0 cause.CaptureShort)
  pub cut_head : captured_packets End (classic ++ 0 ∷ []) ≡ stopped (fault_in 1 cause.CaptureShort)

pub are_classic : AreClassic
unfolding number_at records_of
are_classic = record { records = refl; short = refl; cut_head = refl }

-- Captures written out, computed: a wrong definition does not check.
use Rattle.std.proofs.Common.{◌≡◌, ℕ, List, [], ◌∷◌, ◌++◌, Some, None, refl}
use Rattle.list_core.specs.declared.device.InputEnd.TheVariants.{Open, End, Failed}
use Rattle.list_core.specs.Lines.{finished, unfinished}
use Rattle.capture_core.specs.declared.form.OctetOrder.TheVariants.{BigEndian, LittleEndian}
use Rattle.capture_core.specs.declared.form.FractionUnit.TheVariants.{Microseconds, Nanoseconds}
use Rattle.capture_core.specs.declared.form.CaptureForm.{CaptureForm}
use Rattle.capture_core.specs.declared.capture_fault.CaptureCause.TheVariants.{CaptureHeader, CaptureShort, RecordLength, TooManyRecords, ReadFailed}
use Rattle.capture_core.specs.Numbers.{number_at}
use Rattle.capture_core.specs.Header.{header_of}
use Rattle.capture_core.specs.Capture.{capture, fault_in, records_after, records_of, no_records}

-- ---- headers

-- what follows the magic number, the least significant octets first and last: version 2.4, eight octets, the snapshot length, the link type
abbrev little_rest : List ℕ
little_rest = 2 ∷ 0 ∷ 4 ∷ 0 ∷ 0 ∷ 0 ∷ 0 ∷ 0 ∷ 0 ∷ 0 ∷ 0 ∷ 0 ∷ 0xff ∷ 0xff ∷ 0 ∷ 0 ∷ 1 ∷ 0 ∷ 0 ∷ 0 ∷ []

abbrev big_rest : List ℕ
big_rest = 0 ∷ 2 ∷ 0 ∷ 4 ∷ 0 ∷ 0 ∷ 0 ∷ 0 ∷ 0 ∷ 0 ∷ 0 ∷ 0 ∷ 0 ∷ 0 ∷ 0xff ∷ 0xff ∷ 0 ∷ 0 ∷ 0 ∷ 1 ∷ []

abbrev little_header : List ℕ
little_header = 0xd4 ∷ 0xc3 ∷ 0xb2 ∷ 0xa1 ∷ little_rest

abbrev big_nano_header : List ℕ
big_nano_header = 0xa1 ∷ 0xb2 ∷ 0x3c ∷ 0x4d ∷ big_rest

abbrev little : CaptureForm
little = record { order = LittleEndian; unit = Microseconds }

abbrev big_nano : CaptureForm
big_nano = record { order = BigEndian; unit = Nanoseconds }

pub record AreHeaders : Type 0 where
  pub little_micro : header_of little_header ≡ Some little
  pub little_nano : header_of (0x4d ∷ 0x3c ∷ 0xb2 ∷ 0xa1 ∷ little_rest) ≡ Some (record { order = LittleEndian; unit = Nanoseconds })
  pub big_micro : header_of (0xa1 ∷ 0xb2 ∷ 0xc3 ∷ 0xd4 ∷ big_rest) ≡ Some (record { order = BigEndian; unit = Microseconds })
  pub big_nano_too : header_of big_nano_header ≡ Some big_nano
  -- the high 16 bits of the link type are not looked at
  pub other_bits : header_of (0xd4 ∷ 0xc3 ∷ 0xb2 ∷ 0xa1 ∷ 2 ∷ 0 ∷ 4 ∷ 0 ∷ 9 ∷ 9 ∷ 9 ∷ 9 ∷ 9 ∷ 9 ∷ 9 ∷ 9 ∷ 9 ∷ 9 ∷ 9 ∷ 9 ∷ 1 ∷ 0 ∷ 0xcd ∷ 0xab ∷ []) ≡ Some little
  -- link type 2, version 2.3, an order of its own for the numbers, and another file
  pub link : header_of (0xd4 ∷ 0xc3 ∷ 0xb2 ∷ 0xa1 ∷ 2 ∷ 0 ∷ 4 ∷ 0 ∷ 0 ∷ 0 ∷ 0 ∷ 0 ∷ 0 ∷ 0 ∷ 0 ∷ 0 ∷ 0xff ∷ 0xff ∷ 0 ∷ 0 ∷ 2 ∷ 0 ∷ 0 ∷ 0 ∷ []) ≡ None
  pub version : header_of (0xd4 ∷ 0xc3 ∷ 0xb2 ∷ 0xa1 ∷ 2 ∷ 0 ∷ 3 ∷ 0 ∷ 0 ∷ 0 ∷ 0 ∷ 0 ∷ 0 ∷ 0 ∷ 0 ∷ 0 ∷ 0xff ∷ 0xff ∷ 0 ∷ 0 ∷ 1 ∷ 0 ∷ 0 ∷ 0 ∷ []) ≡ None
  pub mixed : header_of (0xd4 ∷ 0xc3 ∷ 0xb2 ∷ 0xa1 ∷ big_rest) ≡ None
  pub other : header_of (0x0a ∷ 0x0d ∷ 0x0d ∷ 0x0a ∷ little_rest) ≡ None

pub are_headers : AreHeaders
unfolding number_at
are_headers = record { little_micro = refl; little_nano = refl; big_micro = refl; big_nano_too = refl; other_bits = refl; link = refl; version = refl; mixed = refl; other = refl }

-- ---- captures

-- the head of a record of three octets, 1 second and 2 microseconds, of which nine were on the wire
abbrev little_head : List ℕ
little_head = 1 ∷ 0 ∷ 0 ∷ 0 ∷ 2 ∷ 0 ∷ 0 ∷ 0 ∷ 3 ∷ 0 ∷ 0 ∷ 0 ∷ 9 ∷ 0 ∷ 0 ∷ 0 ∷ []

-- the head of a record of one octet, 1 second and 1,999 nanoseconds
abbrev nano_head : List ℕ
nano_head = 0 ∷ 0 ∷ 0 ∷ 1 ∷ 0 ∷ 0 ∷ 7 ∷ 0xcf ∷ 0 ∷ 0 ∷ 0 ∷ 1 ∷ 0 ∷ 0 ∷ 0 ∷ 1 ∷ []

-- the head of a record of no octets
abbrev empty_head : List ℕ
empty_head = 0 ∷ 0 ∷ 0 ∷ 0 ∷ 0 ∷ 0 ∷ 0 ∷ 0 ∷ 0 ∷ 0 ∷ 0 ∷ 0 ∷ 0 ∷ 0 ∷ 0 ∷ 0 ∷ []

-- the head of a record of 262,145 octets
abbrev long_head : List ℕ
long_head = 0 ∷ 0 ∷ 0 ∷ 0 ∷ 0 ∷ 0 ∷ 0 ∷ 0 ∷ 1 ∷ 0 ∷ 4 ∷ 0 ∷ 1 ∷ 0 ∷ 4 ∷ 0 ∷ []

pub record AreCaptures : Type 0 where
  pub frame : capture End (little_header ++ (little_head ++ 0xaa ∷ 0xbb ∷ 0xcc ∷ [])) ≡ record { records = (1, record { moment = 1000002; octets = 0xaa ∷ 0xbb ∷ 0xcc ∷ [] }) ∷ []; stop = finished }
  pub nanoseconds : capture End (big_nano_header ++ (nano_head ++ 0x11 ∷ [])) ≡ record { records = (1, record { moment = 1000001; octets = 0x11 ∷ [] }) ∷ []; stop = finished }
  pub several : capture End (little_header ++ (empty_head ++ (little_head ++ (1 ∷ 2 ∷ 3 ∷ 4 ∷ [])))) ≡
      record { records = (1, record { moment = 0; octets = [] }) ∷ (2, record { moment = 1000002; octets = 1 ∷ 2 ∷ 3 ∷ [] }) ∷ []; stop = fault_in 3 CaptureShort }
  pub none : capture End little_header ≡ no_records finished
  pub nothing : capture End [] ≡ no_records (fault_in 0 CaptureShort)
  pub no_capture : capture End (0x0a ∷ 0x0d ∷ 0x0d ∷ 0x0a ∷ little_rest) ≡ no_records (fault_in 0 CaptureHeader)
  pub cut_record : capture End (little_header ++ (little_head ++ 0xaa ∷ 0xbb ∷ [])) ≡ no_records (fault_in 1 CaptureShort)
  pub failed_header : capture Failed (0xd4 ∷ []) ≡ no_records (fault_in 0 ReadFailed)
  pub failed_record : capture Failed (little_header ++ (little_head ++ 0xaa ∷ [])) ≡ no_records (fault_in 1 ReadFailed)
  pub failed_behind : capture Failed little_header ≡ no_records (fault_in 1 ReadFailed)
  pub still_open : capture Open (little_header ++ (little_head ++ 0xaa ∷ [])) ≡ no_records unfinished
  -- a record that is too long is told whatever comes behind its head, and one that is too many by its first octet
  pub long : capture Open (little_header ++ long_head) ≡ no_records (fault_in 1 RecordLength)
  pub many : records_after little Open 999999 (0 ∷ []) ≡ no_records (fault_in 1000000 TooManyRecords)
  pub most : records_after little End 999999 [] ≡ no_records finished
  pub last : records_after little End 999998 empty_head ≡ record { records = (999999, record { moment = 0; octets = [] }) ∷ []; stop = finished }

pub are_captures : AreCaptures
unfolding number_at records_of
are_captures = record {
  frame = refl;
  nanoseconds = refl;
  several = refl;
  none = refl;
  nothing = refl;
  no_capture = refl;
  cut_record = refl;
  failed_header = refl;
  failed_record = refl;
  failed_behind = refl;
  still_open = refl;
  long = refl;
  many = refl;
  most = refl;
  last = refl;
}

-- Captures with a fault written out, each cause by what the definition of first faults says of it, without what reads: a wrong definition does not check.
use Rattle.std.proofs.Common.{◌≡◌, ℕ, inl, inr, List, [], ◌∷◌, ◌++◌, take, drop, refl, arith}
use Rattle.std.specs.Prelude.{◌≢◌}
use Rattle.std.proofs.lemmas.List.Elements.{All-nil}
use Rattle.list_core.specs.declared.device.InputEnd.{InputEnd}
use Rattle.list_core.specs.declared.device.InputEnd.TheVariants.{Open, End, Failed}
use Rattle.capture_core.specs.Numbers.{number_at}
use Rattle.capture_core.specs.Blocks.{Settled, begins, captures, describes, settled_after}
use Rattle.capture_core.specs.Captured.{unsettled}
use Rattle.capture_core.specs.Capture.{CaptureRecord}
use Rattle.capture_core.specs.Spelling.{SpellsRecords}
use Rattle.capture_core.specs.SpelledBlocks.{HasItsLength, IsBlock, IsSectionHeader, SpellsBlock, SpellsBlocks}
use Rattle.capture_core.specs.FirstFault.{BehindBlocks, BehindRecords, BlockFault, IsBadLength, IsCaptureFault, IsClassicHeader, NextFault, at_start, bad_length, before_next, behind_blocks, behind_records, ends_in_block, ends_in_first_eight, ends_in_first_four, ends_in_head, ends_in_header, ends_in_record, in_body, in_enhanced, in_first_section, in_later_section, in_lengths, in_next, in_section_lengths, magic_of, no_byte_order, no_form, no_header, no_interface, other_at_end, other_version, record_too_long, timed_no_time, timed_past_end, timed_too_long, timed_unknown, too_many}
use Rattle.capture_core.specs.declared.form.CaptureForm.{CaptureForm}
use Rattle.capture_core.specs.declared.form.FractionUnit.{FractionUnit}
use Rattle.capture_core.specs.declared.form.FractionUnit.TheVariants.{Microseconds, Nanoseconds}
use Rattle.capture_core.specs.declared.form.OctetOrder.{OctetOrder}
use Rattle.capture_core.specs.declared.form.OctetOrder.TheVariants.{BigEndian, LittleEndian}
use Rattle.capture_core.specs.declared.interface.Interface.{Interface}
use Rattle.capture_core.specs.declared.capture_fault.CaptureCause.{CaptureCause}
use Rattle.capture_core.specs.declared.capture_fault.CaptureCause.TheVariants as cause
use Rattle.capture_core.proofs.WorkedPackets.{classic, interface, one, packet, section}

-- ---- the classic form, least significant octet first

abbrev little : CaptureForm
little = record { order = LittleEndian; unit = Microseconds }

is_classic : IsClassicHeader little classic
unfolding number_at
is_classic = record { size = refl; magic = refl; major = refl; minor = refl; link_type = refl }

-- a record of one octet, at 1 second and 2 microseconds
abbrev written : List ℕ
written = 1 ∷ 0 ∷ 0 ∷ 0 ∷ 2 ∷ 0 ∷ 0 ∷ 0 ∷ 1 ∷ 0 ∷ 0 ∷ 0 ∷ 9 ∷ 0 ∷ 0 ∷ 0 ∷ 0xaa ∷ []

abbrev written_record : CaptureRecord
written_record = record { moment = 1000002; octets = 0xaa ∷ [] }

are_written : SpellsRecords little (written_record ∷ []) written
unfolding number_at
are_written = (written, [], refl, (take 16 written, refl, refl, refl, omega arith, refl), refl)

abbrev behind_one : List ℕ → List ℕ
behind_one rest = classic ++ (written ++ rest)

is_behind_one : (rest : List ℕ) → BehindRecords little (written_record ∷ []) rest (behind_one rest)
is_behind_one rest = record { header = classic; records = written; parts = refl; is_header = is_classic; are_records = are_written }

-- the head of a record of 262,145 octets
abbrev long_head : List ℕ
long_head = 0 ∷ 0 ∷ 0 ∷ 0 ∷ 0 ∷ 0 ∷ 0 ∷ 0 ∷ 1 ∷ 0 ∷ 4 ∷ 0 ∷ 1 ∷ 0 ∷ 4 ∷ 0 ∷ []

-- version 2.3
abbrev other_header : List ℕ
other_header = 0xd4 ∷ 0xc3 ∷ 0xb2 ∷ 0xa1 ∷ 2 ∷ 0 ∷ 3 ∷ 0 ∷ 0 ∷ 0 ∷ 0 ∷ 0 ∷ 0 ∷ 0 ∷ 0 ∷ 0 ∷ 0xff ∷ 0xff ∷ 0 ∷ 0 ∷ 1 ∷ 0 ∷ 0 ∷ 0 ∷ []

no_classic : ¬ IsClassicHeader little other_header
unfolding number_at
no_classic h = let three = h.minor in omega (arith, three)

-- gzip begins so
abbrev zipped : List ℕ
zipped = 0x1f ∷ 0x8b ∷ 8 ∷ 0 ∷ []

no_magic : (order : OctetOrder) (unit : FractionUnit) → number_at order 4 zipped 0 ≡ magic_of unit → ⊥
unfolding number_at
no_magic BigEndian Microseconds e = omega (arith, e)
no_magic BigEndian Nanoseconds e = omega (arith, e)
no_magic LittleEndian Microseconds e = omega (arith, e)
no_magic LittleEndian Nanoseconds e = omega (arith, e)

pub record AreFaultyRecords : Type 0 where
  pub nothing : IsCaptureFault End [] (record { number = 0; cause = cause.CaptureShort }) []
  pub failed : IsCaptureFault Failed [] (record { number = 0; cause = cause.ReadFailed }) (0xd4 ∷ [])
  pub no_capture : IsCaptureFault Open [] (record { number = 0; cause = cause.CaptureHeader }) zipped
  pub cut_header : IsCaptureFault End [] (record { number = 0; cause = cause.CaptureShort }) (take 23 classic)
  pub version : IsCaptureFault Open [] (record { number = 0; cause = cause.CaptureHeader }) other_header
  pub cut_head : IsCaptureFault End ((1, one 1000002 1) ∷ []) (record { number = 2; cause = cause.CaptureShort }) (behind_one (0 ∷ []))
  pub cut_record : IsCaptureFault End ((1, one 1000002 1) ∷ []) (record { number = 2; cause = cause.CaptureShort }) (behind_one (take 16 written))
  pub long_record : IsCaptureFault Open ((1, one 1000002 1) ∷ []) (record { number = 2; cause = cause.RecordLength }) (behind_one long_head)
  pub failed_behind : IsCaptureFault Failed ((1, one 1000002 1) ∷ []) (record { number = 2; cause = cause.ReadFailed }) (behind_one [])

pub are_faulty_records : AreFaultyRecords
unfolding number_at
are_faulty_records = record {
  nothing = at_start (ends_in_first_four (omega arith) refl) refl refl;
  failed = at_start (ends_in_first_four (omega arith) refl) refl refl;
  no_capture = at_start (no_form (omega arith) (λ form. no_magic form.order form.unit) (λ e. omega (arith, e)) refl) refl refl;
  cut_header = at_start (ends_in_header little (omega arith) refl (omega arith) refl) refl refl;
  version = at_start (no_header little (omega arith) refl no_classic refl) refl refl;
  cut_head = behind_records little (written_record ∷ []) (0 ∷ []) (is_behind_one (0 ∷ [])) (in_next (omega arith) (omega arith) (ends_in_head (omega arith) refl)) refl refl;
  cut_record = behind_records little (written_record ∷ []) (take 16 written) (is_behind_one (take 16 written)) (in_next (omega arith) (omega arith) (ends_in_record (omega arith) (omega arith) (omega arith) refl)) refl refl;
  long_record = behind_records little (written_record ∷ []) long_head (is_behind_one long_head) (in_next (omega arith) (omega arith) (record_too_long (omega arith) (omega arith) refl)) refl refl;
  failed_behind = behind_records little (written_record ∷ []) [] (is_behind_one []) (before_next (omega arith) refl refl refl) refl refl;
}

-- ---- blocks, least significant octet first

abbrev begun : Settled
begun = settled_after unsettled (begins LittleEndian)

is_section : IsSectionHeader LittleEndian section
unfolding number_at
is_section = record {
  body = take 16 (drop 8 section);
  block = record { head = take 8 section; tail = drop 24 section; parts = refl; head_size = refl; tail_size = refl; tells = refl; tells_again = refl; in_fours = refl; at_most = omega arith };
  at_least = omega arith;
  magic = refl;
  major = refl;
}

-- an interface on Ethernet, of microseconds, with a snapshot length of two octets
abbrev plain : Interface
plain = record { link_type = 1; snapshot_length = 2; resolution = 6; offset = 0 }

is_interface : SpellsBlock begun (describes plain) (interface 1)
unfolding number_at
is_interface = (
  refl,
  omega arith,
  (
    take 8 (drop 8 (interface 1)),
    record { head = take 8 (interface 1); tail = drop 16 (interface 1); parts = refl; head_size = refl; tail_size = refl; tells = refl; tells_again = refl; in_fours = refl; at_most = omega arith },
    record {
      head = take 8 (drop 8 (interface 1));
      rest = [];
      parts = refl;
      head_size = refl;
      link_type = refl;
      snapshot_length = refl;
      options = [];
      are_options = inl (omega arith);
      lengths = All-nil HasItsLength;
      resolution = refl;
      offset = refl;
    },
  ),
)

-- a section with an interface, and what follows
abbrev behind_interface : List ℕ → List ℕ
behind_interface rest = section ++ (interface 1 ++ rest)

are_described : SpellsBlocks begun (describes plain ∷ []) (interface 1)
are_described = (interface 1, [], refl, is_interface, refl)

is_behind_interface : (rest : List ℕ) → BehindBlocks LittleEndian (describes plain ∷ []) rest (behind_interface rest)
unfolding number_at
is_behind_interface rest = record { header = section; blocks = interface 1; parts = refl; type = refl; is_header = is_section; are_blocks = are_described }

-- the same, and a packet of the interface at 5,999 microseconds
is_packet : SpellsBlock (settled_after begun (describes plain)) (captures (one 5999 1)) (packet 0 36)
unfolding number_at
is_packet = (
  take 24 (drop 8 (packet 0 36)),
  record { head = take 8 (packet 0 36); tail = drop 32 (packet 0 36); parts = refl; head_size = refl; tail_size = refl; tells = refl; tells_again = refl; in_fours = refl; at_most = omega arith },
  inl (
    refl,
    record {
      of = plain;
      is_known = refl;
      link_type = refl;
      captured = record { head = take 20 (drop 8 (packet 0 36)); padding = 0 ∷ 0 ∷ 0 ∷ []; others = []; parts = refl; head_size = refl; is_padded = refl; at_most = omega arith };
      size = refl;
      time = (refl, omega arith);
    },
  ),
)

are_packets : SpellsBlocks begun (describes plain ∷ captures (one 5999 1) ∷ []) (interface 1 ++ packet 0 36)
are_packets = (interface 1, packet 0 36, refl, is_interface, (packet 0 36, [], refl, is_packet, refl))

abbrev behind_packet : List ℕ → List ℕ
behind_packet rest = section ++ ((interface 1 ++ packet 0 36) ++ rest)

is_behind_packet : (rest : List ℕ) → BehindBlocks LittleEndian (describes plain ∷ captures (one 5999 1) ∷ []) rest (behind_packet rest)
unfolding number_at
is_behind_packet rest = record { header = section; blocks = interface 1 ++ packet 0 36; parts = refl; type = refl; is_header = is_section; are_blocks = are_packets }

-- an enhanced packet of this interface in a block of 36: the octets 12 to 15 of it, of which the last is the greatest of the ticks, and those that tell its captured length
abbrev odd_packet : ℕ → ℕ → List ℕ → List ℕ
odd_packet i high size = 6 ∷ 0 ∷ 0 ∷ 0 ∷ 36 ∷ 0 ∷ 0 ∷ 0 ∷ i ∷ 0 ∷ 0 ∷ 0 ∷ 0 ∷ 0 ∷ 0 ∷ high ∷ 0 ∷ 0 ∷ 0 ∷ 0 ∷ (size ++ (9 ∷ 0 ∷ 0 ∷ 0 ∷ 0xaa ∷ 0 ∷ 0 ∷ 0 ∷ 36 ∷ 0 ∷ 0 ∷ 0 ∷ []))

abbrev odd_body : ℕ → ℕ → List ℕ → List ℕ
odd_body i high size = take 24 (drop 8 (odd_packet i high size))

is_odd : (i high a b c d : ℕ) → IsBlock LittleEndian (odd_body i high (a ∷ b ∷ c ∷ d ∷ [])) (odd_packet i high (a ∷ b ∷ c ∷ d ∷ []))
unfolding number_at
is_odd i high a b c d =
    let block = odd_packet i high (a ∷ b ∷ c ∷ d ∷ []) in
    record { head = take 8 block; tail = drop 32 block; parts = refl; head_size = refl; tail_size = refl; tells = refl; tells_again = refl; in_fours = refl; at_most = omega arith }

-- an interface with an if_tsresol (9) of two octets, and one with an option of 40 octets, of which the block has four
abbrev two_octets : List ℕ
two_octets = 1 ∷ 0 ∷ 0 ∷ 0 ∷ 28 ∷ 0 ∷ 0 ∷ 0 ∷ 1 ∷ 0 ∷ 0 ∷ 0 ∷ 0 ∷ 0 ∷ 0 ∷ 0 ∷ 9 ∷ 0 ∷ 2 ∷ 0 ∷ 6 ∷ 6 ∷ 0 ∷ 0 ∷ 28 ∷ 0 ∷ 0 ∷ 0 ∷ []

abbrev far_option : List ℕ
far_option = 1 ∷ 0 ∷ 0 ∷ 0 ∷ 28 ∷ 0 ∷ 0 ∷ 0 ∷ 1 ∷ 0 ∷ 0 ∷ 0 ∷ 0 ∷ 0 ∷ 0 ∷ 0 ∷ 2 ∷ 0 ∷ 40 ∷ 0 ∷ 6 ∷ 6 ∷ 0 ∷ 0 ∷ 28 ∷ 0 ∷ 0 ∷ 0 ∷ []

-- a block of which only the lengths and the first octets are looked at: a total length of 18, and one of 16 that ends with 12
abbrev no_fours : List ℕ
no_fours = 9 ∷ 0 ∷ 0 ∷ 0 ∷ 18 ∷ 0 ∷ 0 ∷ 0 ∷ []

abbrev other_end : List ℕ
other_end = 9 ∷ 0 ∷ 0 ∷ 0 ∷ 16 ∷ 0 ∷ 0 ∷ 0 ∷ 1 ∷ 2 ∷ 3 ∷ 4 ∷ 12 ∷ 0 ∷ 0 ∷ 0 ∷ []

-- a section header whose byte-order magic is none, and one of version 2.0
abbrev other_magic : List ℕ
other_magic = 0x0a ∷ 0x0d ∷ 0x0d ∷ 0x0a ∷ 28 ∷ 0 ∷ 0 ∷ 0 ∷ 1 ∷ 2 ∷ 3 ∷ 4 ∷ []

abbrev version_two : List ℕ
version_two = 0x0a ∷ 0x0d ∷ 0x0d ∷ 0x0a ∷ 28 ∷ 0 ∷ 0 ∷ 0 ∷ 0x4d ∷ 0x3c ∷ 0x2b ∷ 0x1a ∷ 2 ∷ 0 ∷ 0 ∷ 0 ∷ 0 ∷ 0 ∷ 0 ∷ 0 ∷ 0 ∷ 0 ∷ 0 ∷ 0 ∷ 28 ∷ 0 ∷ 0 ∷ 0 ∷ []

is_version_two : IsBlock LittleEndian (take 16 (drop 8 version_two)) version_two
unfolding number_at
is_version_two = record { head = take 8 version_two; tail = drop 24 version_two; parts = refl; head_size = refl; tail_size = refl; tells = refl; tells_again = refl; in_fours = refl; at_most = omega arith }

is_two_octets : IsBlock LittleEndian (take 16 (drop 8 two_octets)) two_octets
unfolding number_at
is_two_octets = record { head = take 8 two_octets; tail = drop 24 two_octets; parts = refl; head_size = refl; tail_size = refl; tells = refl; tells_again = refl; in_fours = refl; at_most = omega arith }

is_far_option : IsBlock LittleEndian (take 16 (drop 8 far_option)) far_option
unfolding number_at
is_far_option = record { head = take 8 far_option; tail = drop 24 far_option; parts = refl; head_size = refl; tail_size = refl; tells = refl; tells_again = refl; in_fours = refl; at_most = omega arith }

good_sixteen : ¬ IsBadLength 12 16
good_sixteen (inl h) = omega (arith, h)
good_sixteen (inr (inl n)) = n refl
good_sixteen (inr (inr h)) = omega (arith, h)

good_section : ¬ IsBadLength 28 28
good_section (inl h) = omega (arith, h)
good_section (inr (inl n)) = n refl
good_section (inr (inr h)) = omega (arith, h)

no_remainder : ◌≢◌ {A = ℕ} 2 0
no_remainder e = omega (arith, e)

-- the fault of the block behind a section with an interface, and behind a packet of it
abbrev Behind : List ℕ → InputEnd → CaptureCause → Type 0
Behind rest z why = IsCaptureFault z [] (record { number = 1; cause = why }) (behind_interface rest)

behind : (z : InputEnd) (why : CaptureCause) (x : ℕ) (xs : List ℕ) → BlockFault z (settled_after begun (describes plain)) why (x ∷ xs) → Behind (x ∷ xs) z why
behind z why x xs f = behind_blocks LittleEndian (describes plain ∷ []) (x ∷ xs) (is_behind_interface (x ∷ xs)) (in_next (omega arith) (omega arith) f) refl refl

pub record AreFaultyBlocks : Type 0 where
  pub first_magic : IsCaptureFault Open [] (record { number = 0; cause = cause.CaptureHeader }) other_magic
  pub first_version : IsCaptureFault Open [] (record { number = 0; cause = cause.CaptureHeader }) version_two
  pub cut_section : IsCaptureFault End [] (record { number = 0; cause = cause.CaptureShort }) (take 27 section)
  pub later_magic : Behind other_magic Open cause.BlockForm
  pub later_version : Behind version_two Open cause.BlockForm
  pub not_in_fours : Behind no_fours Open cause.BlockLength
  pub ends_otherwise : Behind other_end Open cause.BlockLength
  pub cut_block : Behind (take 15 other_end) End cause.CaptureShort
  pub failed_block : Behind (take 7 other_end) Failed cause.ReadFailed
  pub resolution : Behind two_octets Open cause.BlockForm
  pub option : Behind far_option Open cause.BlockForm
  pub undescribed : Behind (odd_packet 1 0 (1 ∷ 0 ∷ 0 ∷ 0 ∷ [])) Open cause.Interface
  pub long_packet : Behind (odd_packet 0 0 (1 ∷ 0 ∷ 4 ∷ 0 ∷ [])) Open cause.RecordLength
  pub far_octets : Behind (odd_packet 0 0 (5 ∷ 0 ∷ 0 ∷ 0 ∷ [])) Open cause.BlockForm
  pub far_time : Behind (odd_packet 0 255 (1 ∷ 0 ∷ 0 ∷ 0 ∷ [])) Open cause.PacketTime
  -- the packet before it has its own number
  pub after_packet : IsCaptureFault Open ((1, one 5999 1) ∷ []) (record { number = 2; cause = cause.Interface }) (behind_packet (odd_packet 1 0 (1 ∷ 0 ∷ 0 ∷ 0 ∷ [])))
  -- one more than may come
  pub one_too_many : NextFault Open 999999999999999998 999999999999999998 (BlockFault Open begun) cause.TooManyRecords no_fours

pub are_faulty_blocks : AreFaultyBlocks
unfolding number_at
are_faulty_blocks = record {
  first_magic = at_start (in_first_section (omega arith) refl (no_byte_order (omega arith) refl refl)) refl refl;
  first_version = at_start (in_first_section (omega arith) refl (other_version LittleEndian version_two [] (take 16 (drop 8 version_two)) refl refl is_version_two (omega arith) (λ e. omega (arith, e)) refl)) refl refl;
  cut_section = at_start (in_first_section (omega arith) refl (in_section_lengths LittleEndian (omega arith) refl (ends_in_block good_section (omega arith) refl))) refl refl;
  later_magic = behind Open cause.BlockForm 0x0a (drop 1 other_magic) (in_later_section (omega arith) refl (no_byte_order (omega arith) refl refl));
  later_version =
      behind Open cause.BlockForm 0x0a (drop 1 version_two)
      (in_later_section (omega arith) refl (other_version LittleEndian version_two [] (take 16 (drop 8 version_two)) refl refl is_version_two (omega arith) (λ e. omega (arith, e)) refl));
  not_in_fours = behind Open cause.BlockLength 9 (drop 1 no_fours) (in_lengths (omega arith) (λ e. omega (arith, e)) (bad_length (inr (inl no_remainder)) refl));
  ends_otherwise = behind Open cause.BlockLength 9 (drop 1 other_end) (in_lengths (omega arith) (λ e. omega (arith, e)) (other_at_end good_sixteen (omega arith) (λ e. omega (arith, e)) refl));
  cut_block = behind End cause.CaptureShort 9 (drop 1 (take 15 other_end)) (in_lengths (omega arith) (λ e. omega (arith, e)) (ends_in_block good_sixteen (omega arith) refl));
  failed_block = behind Failed cause.ReadFailed 9 (drop 1 (take 7 other_end)) (ends_in_first_eight (omega arith) refl);
  resolution =
      behind Open cause.BlockForm 1 (drop 1 two_octets)
      (in_body two_octets [] (take 16 (drop 8 two_octets)) refl is_two_octets (no_interface refl (inr (omega arith, ([], record { begun = omega arith; no_end = λ e. omega (arith, e); bad = inr (inl (refl, λ e. omega (arith, e))) }))) refl));
  option =
      behind Open cause.BlockForm 1 (drop 1 far_option)
      (in_body far_option [] (take 16 (drop 8 far_option)) refl is_far_option (no_interface refl (inr (omega arith, ([], record { begun = omega arith; no_end = λ e. omega (arith, e); bad = inl (omega arith) }))) refl));
  undescribed =
      behind Open cause.Interface 6 (drop 1 (odd_packet 1 0 (1 ∷ 0 ∷ 0 ∷ 0 ∷ [])))
      (in_body (odd_packet 1 0 (1 ∷ 0 ∷ 0 ∷ 0 ∷ [])) [] (odd_body 1 0 (1 ∷ 0 ∷ 0 ∷ 0 ∷ [])) refl (is_odd 1 0 1 0 0 0) (in_enhanced refl (timed_unknown (omega arith) (omega arith) refl)));
  long_packet =
      behind Open cause.RecordLength 6 (drop 1 (odd_packet 0 0 (1 ∷ 0 ∷ 4 ∷ 0 ∷ [])))
      (in_body (odd_packet 0 0 (1 ∷ 0 ∷ 4 ∷ 0 ∷ [])) [] (odd_body 0 0 (1 ∷ 0 ∷ 4 ∷ 0 ∷ [])) refl (is_odd 0 0 1 0 4 0) (in_enhanced refl (timed_too_long (omega arith) (omega arith) (omega arith) refl)));
  far_octets =
      behind Open cause.BlockForm 6 (drop 1 (odd_packet 0 0 (5 ∷ 0 ∷ 0 ∷ 0 ∷ [])))
      (in_body (odd_packet 0 0 (5 ∷ 0 ∷ 0 ∷ 0 ∷ [])) [] (odd_body 0 0 (5 ∷ 0 ∷ 0 ∷ 0 ∷ [])) refl (is_odd 0 0 5 0 0 0) (in_enhanced refl (timed_past_end (omega arith) (omega arith) (omega arith) (omega arith) refl)));
  far_time =
      behind Open cause.PacketTime 6 (drop 1 (odd_packet 0 255 (1 ∷ 0 ∷ 0 ∷ 0 ∷ [])))
      (in_body (odd_packet 0 255 (1 ∷ 0 ∷ 0 ∷ 0 ∷ [])) [] (odd_body 0 255 (1 ∷ 0 ∷ 0 ∷ 0 ∷ [])) refl (is_odd 0 255 1 0 0 0) (in_enhanced refl (timed_no_time plain refl (omega arith) (omega arith) (inr (omega arith)) refl)));
  after_packet =
      behind_blocks LittleEndian (describes plain ∷ captures (one 5999 1) ∷ []) (odd_packet 1 0 (1 ∷ 0 ∷ 0 ∷ 0 ∷ [])) (is_behind_packet (odd_packet 1 0 (1 ∷ 0 ∷ 0 ∷ 0 ∷ [])))
      (in_next (omega arith) (omega arith) (in_body (odd_packet 1 0 (1 ∷ 0 ∷ 0 ∷ 0 ∷ [])) [] (odd_body 1 0 (1 ∷ 0 ∷ 0 ∷ 0 ∷ [])) refl (is_odd 1 0 1 0 0 0) (in_enhanced refl (timed_unknown (omega arith) (omega arith) refl)))) refl refl;
  one_too_many = too_many refl (omega arith) refl;
}

-- Octets that docs/FORMATS.md gives, computed: a wrong definition does not check.
use Rattle.std.proofs.Common.{◌≡◌, ℕ, ◌+◌, true, false, List, [], ◌∷◌, ◌++◌, take, drop, Some, None, Ok, refl, arith}
use Rattle.std.specs.Prelude.{slice_range}
use Rattle.ber_core.specs.computed.ContentsReading.{all_visible_at, any_integer_at, boolean_at, counted_at, integer_at}
use Rattle.ber_core.specs.computed.FieldReading.{required_at, there_at}
use Rattle.ber_core.specs.computed.Reading.{counted_length_at, header_at, length_at, refused}
use Rattle.ber_core.specs.computed.RepeatedReading.{each_within}
use Rattle.ber_core.specs.Written.{integer_size, short_integer, short_length, written_element}
use Rattle.ber_core.specs.declared.fault.Cause.TheVariants as causes
use Rattle.mms_data.specs.computed.ContentsReading.{simple_at}
use Rattle.mms_data.specs.Data.{boolean, simple}
use Rattle.mms_data.specs.computed.KindReading.{kind_at}
use Rattle.mms_data.specs.computed.Reading.{member_at, member_with, members_at, members_with}
use Rattle.mms_data.specs.computed.UtcReading.{utc_at}
use Rattle.pdu_core.specs.computed.ContentsReading.{few_at, fixed_in, members_in, number_in}
use Rattle.pdu_core.specs.Goose.{SpellsGoose, goose_items}
use Rattle.pdu_core.specs.computed.GooseReading.{goose_at}
use Rattle.pdu_core.specs.Sampled.{SpellsSv, items_of_each}
use Rattle.pdu_core.specs.computed.SampledReading.{asdus_at, count_in, sv_at}
use Rattle.pdu_core.specs.SampledWritten.{written_sv}
use Rattle.pdu_core.specs.Written.{written_goose}
use Rattle.pdu_core.specs.declared.goose.GoosePdu.{GoosePdu}
use Rattle.pdu_core.specs.declared.sampled.asdu.SvPdu.{SvPdu}
use Rattle.pdu_core.proofs.GooseLaws.{goose_found}
use Rattle.pdu_core.proofs.SvShown.{sv_spelled}

-- ---- GOOSE

-- the example's frame: its APDU stands from 22 to 67
abbrev frame : List ℕ
frame =
    0x01 ∷ 0x0c ∷ 0xcd ∷ 0x01 ∷ 0x00 ∷ 0x01 ∷ 0x02 ∷ 0x00 ∷ 0x00 ∷ 0x00 ∷ 0x00 ∷ 0x01 ∷ 0x88 ∷ 0xb8 ∷ 0x00 ∷ 0x01 ∷ 0x00 ∷ 0x35 ∷ 0x00 ∷ 0x00 ∷ 0x00 ∷ 0x00
    ∷ 0x61 ∷ 0x2b ∷ 0x80 ∷ 0x01 ∷ 0x47 ∷ 0x81 ∷ 0x02 ∷ 0x07 ∷ 0xd0 ∷ 0x82 ∷ 0x01 ∷ 0x44 ∷ 0x84 ∷ 0x08 ∷ 0x00 ∷ 0x00 ∷ 0x00 ∷ 0x00 ∷ 0x00 ∷ 0x00 ∷ 0x00 ∷ 0x00
    ∷ 0x85 ∷ 0x01 ∷ 0x01 ∷ 0x86 ∷ 0x01 ∷ 0x00 ∷ 0x87 ∷ 0x01 ∷ 0x00 ∷ 0x88 ∷ 0x01 ∷ 0x01 ∷ 0x89 ∷ 0x01 ∷ 0x00 ∷ 0x8a ∷ 0x01 ∷ 0x01 ∷ 0xab ∷ 0x03 ∷ 0x83 ∷ 0x01 ∷ 0xff ∷ []

abbrev its_pdu : GoosePdu (Unit {0})
its_pdu = record {
  gocb_ref = 0x47 ∷ [];
  live = 2000;
  dat_set = 0x44 ∷ [];
  go_id = None;
  t = record { seconds = 0; fraction = 0; quality = 0 };
  st_num = 1;
  sq_num = 0;
  simulation = false;
  conf_rev = 1;
  nds_com = false;
  members = simple (boolean true) ∷ [];
}

pub goose_read : goose_at frame 22 67 ≡ Ok (goose_items its_pdu)
unfolding goose_at required_at there_at header_at length_at number_in members_in integer_at any_integer_at boolean_at all_visible_at utc_at members_at members_with member_at member_with kind_at simple_at
goose_read = refl

-- so these octets spell this APDU
pub goose_spelled : SpellsGoose its_pdu (slice_range frame 22 67)
goose_spelled = goose_found frame 22 67 (omega arith) (omega arith) (goose_items its_pdu) goose_read

pub goose_written : written_goose its_pdu ≡ slice_range frame 22 67
unfolding written_element short_length short_integer integer_size
goose_written = refl

-- a goID, true as 01 and as FF, a long length, a padded number, and a boolean that is absent
abbrev needless : List ℕ
needless =
    0x61 ∷ 0x82 ∷ 0 ∷ 0x31 ∷ 0x80 ∷ 1 ∷ 0x47 ∷ 0x81 ∷ 2 ∷ 7 ∷ 0xd0 ∷ 0x82 ∷ 1 ∷ 0x44 ∷ 0x83 ∷ 1 ∷ 0x49 ∷ 0x84 ∷ 8 ∷ 0 ∷ 0 ∷ 0 ∷ 0 ∷ 0 ∷ 0 ∷ 0 ∷ 0
    ∷ 0x85 ∷ 5 ∷ 0 ∷ 0 ∷ 0 ∷ 0 ∷ 1 ∷ 0x86 ∷ 1 ∷ 0 ∷ 0x87 ∷ 1 ∷ 1 ∷ 0x88 ∷ 1 ∷ 1 ∷ 0x8a ∷ 1 ∷ 1 ∷ 0xab ∷ 5 ∷ 0x83 ∷ 0x82 ∷ 0 ∷ 1 ∷ 0xff ∷ []

pub needless_read : goose_at needless 0 53 ≡ Ok (goose_items (record its_pdu { go_id = Some (0x49 ∷ []); simulation = true }))
unfolding goose_at required_at there_at header_at length_at counted_length_at number_in members_in integer_at any_integer_at boolean_at all_visible_at utc_at members_at members_with member_at member_with kind_at simple_at
needless_read = refl

-- the frame with another octet at a place
abbrev changed : ℕ → ℕ → List ℕ
changed place octet = take place frame ++ octet ∷ drop (place + 1) frame

-- sixteen arrays in one another around a boolean, in place of the member
abbrev deep : List ℕ
deep =
    take 23 frame ++ 0x4b ∷ (slice_range frame 24 62 ++ 0xab ∷ 0x23 ∷ 0xa1 ∷ 0x21 ∷ 0xa1 ∷ 0x1f ∷ 0xa1 ∷ 0x1d ∷ 0xa1 ∷ 0x1b ∷ 0xa1 ∷ 0x19 ∷ 0xa1 ∷ 0x17 ∷ 0xa1 ∷ 0x15 ∷ 0xa1 ∷ 0x13
    ∷ 0xa1 ∷ 0x11 ∷ 0xa1 ∷ 0x0f ∷ 0xa1 ∷ 0x0d ∷ 0xa1 ∷ 0x0b ∷ 0xa1 ∷ 0x09 ∷ 0xa1 ∷ 0x07 ∷ 0xa1 ∷ 0x05 ∷ 0xa1 ∷ 0x03 ∷ 0x83 ∷ 0x01 ∷ 0xff ∷ [])

-- each fault with its place
pub record AreGooseFaults : Type 0 where
  pub ends : goose_at (changed 23 0x82) 22 24 ≡ refused 24 causes.Ends
  pub high_tag : goose_at (changed 24 0x9f) 22 67 ≡ refused 24 causes.HighTag
  pub indefinite : goose_at (changed 23 0x80) 22 67 ≡ refused 23 causes.Indefinite
  pub length_form : goose_at (changed 23 0x85) 22 67 ≡ refused 23 causes.LengthForm
  pub past_end : goose_at (changed 23 0x2c) 22 67 ≡ refused 23 causes.LengthPastEnd
  pub last_past_end : goose_at (changed 23 0x2a) 22 67 ≡ refused 63 causes.LengthPastEnd
  pub integer_length : goose_at (changed 45 0) 22 67 ≡ refused 45 causes.IntegerLength
  pub no_goose : goose_at (changed 22 0x60) 22 67 ≡ refused 22 causes.UnexpectedTag
  pub no_kind : goose_at (changed 64 0x88) 22 67 ≡ refused 64 causes.UnexpectedTag
  pub boolean_length : goose_at (changed 51 2) 22 67 ≡ refused 51 causes.BooleanLength
  pub integer_range : goose_at (changed 46 0xff) 22 67 ≡ refused 46 causes.IntegerRange
  pub bit_unused : goose_at (take 64 frame ++ 0x84 ∷ 1 ∷ 1 ∷ []) 22 67 ≡ refused 66 causes.BitUnused
  pub fixed_length : goose_at (changed 35 7) 22 67 ≡ refused 35 causes.FixedLength
  pub not_visible : goose_at (changed 26 7) 22 67 ≡ refused 26 causes.NotVisible
  pub too_deep : goose_at deep 22 99 ≡ refused 96 causes.TooDeep
  pub missing : goose_at (changed 23 3) 22 27 ≡ refused 27 causes.ElementMissing
  pub extra : goose_at (frame ++ 0 ∷ []) 22 68 ≡ refused 67 causes.ExtraOctets
  -- the count, which is judged last
  pub entry_count : goose_at (changed 61 2) 22 67 ≡ refused 59 causes.EntryCount
  pub extra_first : goose_at (changed 61 2 ++ 0 ∷ []) 22 68 ≡ refused 67 causes.ExtraOctets

pub goose_faults : AreGooseFaults
unfolding goose_at required_at there_at header_at length_at counted_length_at number_in members_in integer_at any_integer_at boolean_at all_visible_at utc_at members_at members_with member_at member_with kind_at simple_at
goose_faults = record {
  ends = refl;
  high_tag = refl;
  indefinite = refl;
  length_form = refl;
  past_end = refl;
  last_past_end = refl;
  integer_length = refl;
  no_goose = refl;
  no_kind = refl;
  boolean_length = refl;
  integer_range = refl;
  bit_unused = refl;
  fixed_length = refl;
  not_visible = refl;
  too_deep = refl;
  missing = refl;
  extra = refl;
  entry_count = refl;
  extra_first = refl;
}

-- ---- Sampled Values

-- the other example's frame: its APDU stands from 22 to 54
abbrev sampled : List ℕ
sampled =
    0x01 ∷ 0x0c ∷ 0xcd ∷ 0x04 ∷ 0x00 ∷ 0x01 ∷ 0x02 ∷ 0x00 ∷ 0x00 ∷ 0x00 ∷ 0x00 ∷ 0x01 ∷ 0x88 ∷ 0xba ∷ 0x40 ∷ 0x00 ∷ 0x00 ∷ 0x28 ∷ 0x00 ∷ 0x00 ∷ 0x00 ∷ 0x00
    ∷ 0x60 ∷ 0x1e ∷ 0x80 ∷ 0x01 ∷ 0x01 ∷ 0xa2 ∷ 0x19 ∷ 0x30 ∷ 0x17 ∷ 0x80 ∷ 0x01 ∷ 0x53 ∷ 0x82 ∷ 0x02 ∷ 0x0f ∷ 0x9e ∷ 0x83 ∷ 0x04 ∷ 0x00 ∷ 0x00 ∷ 0x00 ∷ 0x01
    ∷ 0x85 ∷ 0x01 ∷ 0x02 ∷ 0x87 ∷ 0x02 ∷ 0x00 ∷ 0x2a ∷ 0x88 ∷ 0x01 ∷ 0x00 ∷ []

abbrev its_sv_pdu : SvPdu (Unit {0})
its_sv_pdu = record {
  asdus = record {
    sv_id = 0x53 ∷ [];
    dat_set = None;
    smp_cnt = 3998;
    conf_rev = 1;
    refr_tm = None;
    smp_synch = 2;
    smp_rate = None;
    sample = 0 ∷ 0x2a ∷ [];
    smp_mod = Some (0 ∷ []);
    field_89 = None;
  } ∷ [];
}

pub sv_read : sv_at sampled 22 54 ≡ Ok (items_of_each its_sv_pdu.asdus)
unfolding sv_at asdus_at each_within count_in required_at there_at header_at length_at integer_at any_integer_at all_visible_at counted_at fixed_in few_at
sv_read = refl

pub sv_pdu_spelled : SpellsSv its_sv_pdu (slice_range sampled 22 54)
sv_pdu_spelled = sv_spelled sampled 22 54 (omega arith) (omega arith) its_sv_pdu sv_read

pub sv_written : written_sv its_sv_pdu ≡ slice_range sampled 22 54
unfolding written_element short_length short_integer integer_size
sv_written = refl

-- the frame with another octet at a place
abbrev sv_changed : ℕ → ℕ → List ℕ
sv_changed place octet = take place sampled ++ octet ∷ drop (place + 1) sampled

pub record AreSvFaults : Type 0 where
  pub no_asdus : sv_at (sv_changed 26 0) 22 54 ≡ refused 26 causes.IntegerRange
  pub not_an_asdu : sv_at (sv_changed 29 0x31) 22 54 ≡ refused 29 causes.UnexpectedTag
  pub not_visible : sv_at (sv_changed 33 7) 22 54 ≡ refused 33 causes.NotVisible
  pub count_of_one : sv_at (sv_changed 35 1) 22 54 ≡ refused 35 causes.FixedLength
  pub synchronised : sv_at (sv_changed 44 0x86) 22 54 ≡ refused 44 causes.UnexpectedTag
  pub missing : sv_at (sv_changed 23 3) 22 27 ≡ refused 27 causes.ElementMissing
  pub extra : sv_at (sampled ++ 0 ∷ []) 22 55 ≡ refused 54 causes.ExtraOctets
  pub behind_the_fields : sv_at (sv_changed 51 0x8a) 22 54 ≡ refused 51 causes.ExtraOctets
  -- the count, which is judged last
  pub asdu_count : sv_at (sv_changed 26 2) 22 54 ≡ refused 24 causes.AsduCount
  pub extra_first : sv_at (sv_changed 26 2 ++ 0 ∷ []) 22 55 ≡ refused 54 causes.ExtraOctets

pub sv_faults : AreSvFaults
unfolding sv_at asdus_at each_within count_in required_at there_at header_at length_at integer_at any_integer_at all_visible_at counted_at fixed_in few_at
sv_faults = record {
  no_asdus = refl;
  not_an_asdu = refl;
  not_visible = refl;
  count_of_one = refl;
  synchronised = refl;
  missing = refl;
  extra = refl;
  behind_the_fields = refl;
  asdu_count = refl;
  extra_first = refl;
}

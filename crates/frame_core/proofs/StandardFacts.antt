-- Frames that docs/FORMATS.md gives, computed: a wrong definition does not check.
use Rattle.std.proofs.Common.{◌≡◌, ℕ, ◌+◌, true, false, List, [], ◌∷◌, ◌++◌, take, drop, Some, None, Ok, refl}
use Rattle.std.specs.Prelude.{Result}
use Rattle.ber_core.specs.computed.ContentsReading.{all_visible_at, any_integer_at, boolean_at, counted_at, integer_at}
use Rattle.ber_core.specs.computed.FieldReading.{required_at, there_at}
use Rattle.ber_core.specs.computed.Reading.{header_at, length_at, refused}
use Rattle.ber_core.specs.computed.RepeatedReading.{each_within}
use Rattle.ber_core.specs.Written.{integer_size, short_integer, short_length, written_element}
use Rattle.ber_core.specs.declared.fault.Cause.TheVariants as causes
use Rattle.ber_core.specs.declared.fault.Fault.{Fault}
use Rattle.mms_data.specs.computed.ContentsReading.{simple_at}
use Rattle.mms_data.specs.Data.{boolean, simple}
use Rattle.mms_data.specs.computed.KindReading.{kind_at}
use Rattle.mms_data.specs.computed.Reading.{member_at, member_with, members_at, members_with}
use Rattle.mms_data.specs.computed.UtcReading.{utc_at}
use Rattle.pdu_core.specs.computed.ContentsReading.{few_at, fixed_in, members_in, number_in}
use Rattle.pdu_core.specs.computed.GooseReading.{goose_at}
use Rattle.pdu_core.specs.computed.SampledReading.{asdus_at, count_in, sv_at}
use Rattle.frame_core.specs.computed.EnvelopeReading.{envelope_at, envelope_judged}
use Rattle.frame_core.specs.Frame.{SpellsFrame}
use Rattle.frame_core.specs.computed.FrameReading.{frame_at}
use Rattle.frame_core.specs.VlanTag.{drop_eligible_of, priority_of, vlan_of}
use Rattle.frame_core.specs.Written.{written_frame}
use Rattle.frame_core.specs.declared.frame.Apdu.TheVariants as apdus
use Rattle.frame_core.specs.declared.frame.Frame.{Frame as AFrame}
use Rattle.frame_core.proofs.ReadingLaws.{frame_read_found}

-- ---- frames of GOOSE

-- the example of 67 octets
abbrev goose : List ℕ
goose =
    0x01 ∷ 0x0c ∷ 0xcd ∷ 0x01 ∷ 0x00 ∷ 0x01 ∷ 0x02 ∷ 0x00 ∷ 0x00 ∷ 0x00 ∷ 0x00 ∷ 0x01 ∷ 0x88 ∷ 0xb8 ∷ 0x00 ∷ 0x01 ∷ 0x00 ∷ 0x35 ∷ 0x00 ∷ 0x00 ∷ 0x00 ∷ 0x00
    ∷ 0x61 ∷ 0x2b ∷ 0x80 ∷ 0x01 ∷ 0x47 ∷ 0x81 ∷ 0x02 ∷ 0x07 ∷ 0xd0 ∷ 0x82 ∷ 0x01 ∷ 0x44 ∷ 0x84 ∷ 0x08 ∷ 0x00 ∷ 0x00 ∷ 0x00 ∷ 0x00 ∷ 0x00 ∷ 0x00 ∷ 0x00 ∷ 0x00
    ∷ 0x85 ∷ 0x01 ∷ 0x01 ∷ 0x86 ∷ 0x01 ∷ 0x00 ∷ 0x87 ∷ 0x01 ∷ 0x00 ∷ 0x88 ∷ 0x01 ∷ 0x01 ∷ 0x89 ∷ 0x01 ∷ 0x00 ∷ 0x8a ∷ 0x01 ∷ 0x01 ∷ 0xab ∷ 0x03 ∷ 0x83 ∷ 0x01 ∷ 0xff ∷ []

abbrev its_frame : AFrame (Unit {0})
its_frame = record {
  destination = 0x01 ∷ 0x0c ∷ 0xcd ∷ 0x01 ∷ 0x00 ∷ 0x01 ∷ [];
  source = 0x02 ∷ 0x00 ∷ 0x00 ∷ 0x00 ∷ 0x00 ∷ 0x01 ∷ [];
  tag = None;
  app_id = 1;
  reserved1 = 0;
  reserved2 = 0;
  apdu = apdus.Goose (record {
    gocb_ref = 0x47 ∷ [];
    live = 2000;
    dat_set = 0x44 ∷ [];
    go_id = None;
    t = record { seconds = 0; fraction = 0; quality = 0 };
    st_num = 1;
    sq_num = 0;
    simulation = false;
    conf_rev = 1;
    nds_com = false;
    members = simple (boolean true) ∷ [];
  });
  trailer = [];
}

-- the same with a tag of priority 4 and virtual network 1, and a trailer
abbrev tagged : List ℕ
tagged = take 12 goose ++ 0x81 ∷ 0x00 ∷ 0x80 ∷ 0x01 ∷ drop 12 goose ++ 0xaa ∷ 0xbb ∷ []

abbrev its_tagged_frame : AFrame (Unit {0})
its_tagged_frame = record its_frame { tag = Some (record { control = 0x8001 }); trailer = 0xaa ∷ 0xbb ∷ [] }

pub record AreGooseFrames : Type 0 where
  pub read : frame_at goose ≡ Ok its_frame
  pub written : written_frame its_frame ≡ goose
  pub tagged_read : frame_at tagged ≡ Ok its_tagged_frame
  pub tagged_written : written_frame its_tagged_frame ≡ tagged

pub goose_frames : AreGooseFrames
unfolding frame_at envelope_judged envelope_at goose_at required_at there_at header_at length_at number_in members_in integer_at any_integer_at boolean_at all_visible_at utc_at members_at members_with member_at member_with kind_at simple_at written_element short_length short_integer integer_size
goose_frames = record { read = refl; written = refl; tagged_read = refl; tagged_written = refl }

-- so these octets spell these frames
pub goose_spelled : SpellsFrame its_frame goose
goose_spelled = frame_read_found goose its_frame goose_frames.read

pub tagged_spelled : SpellsFrame its_tagged_frame tagged
tagged_spelled = frame_read_found tagged its_tagged_frame goose_frames.tagged_read

-- ---- a frame of Sampled Values

-- the other example, of 54 octets
abbrev sampled : List ℕ
sampled =
    0x01 ∷ 0x0c ∷ 0xcd ∷ 0x04 ∷ 0x00 ∷ 0x01 ∷ 0x02 ∷ 0x00 ∷ 0x00 ∷ 0x00 ∷ 0x00 ∷ 0x01 ∷ 0x88 ∷ 0xba ∷ 0x40 ∷ 0x00 ∷ 0x00 ∷ 0x28 ∷ 0x00 ∷ 0x00 ∷ 0x00 ∷ 0x00
    ∷ 0x60 ∷ 0x1e ∷ 0x80 ∷ 0x01 ∷ 0x01 ∷ 0xa2 ∷ 0x19 ∷ 0x30 ∷ 0x17 ∷ 0x80 ∷ 0x01 ∷ 0x53 ∷ 0x82 ∷ 0x02 ∷ 0x0f ∷ 0x9e ∷ 0x83 ∷ 0x04 ∷ 0x00 ∷ 0x00 ∷ 0x00 ∷ 0x01
    ∷ 0x85 ∷ 0x01 ∷ 0x02 ∷ 0x87 ∷ 0x02 ∷ 0x00 ∷ 0x2a ∷ 0x88 ∷ 0x01 ∷ 0x00 ∷ []

abbrev its_sampled_frame : AFrame (Unit {0})
its_sampled_frame = record {
  destination = 0x01 ∷ 0x0c ∷ 0xcd ∷ 0x04 ∷ 0x00 ∷ 0x01 ∷ [];
  source = 0x02 ∷ 0x00 ∷ 0x00 ∷ 0x00 ∷ 0x00 ∷ 0x01 ∷ [];
  tag = None;
  app_id = 0x4000;
  reserved1 = 0;
  reserved2 = 0;
  apdu = apdus.Sampled (record {
    asdus = record {
      sv_id = 0x53 ∷ [];
      dat_set = None;
      smp_cnt = 3998;
      conf_rev = 1;
      refr_tm = None;
      smp_synch = 2;
      smp_rate = None;
      sample = 0 ∷ 0x2a ∷ [];
      smp_mod = Some (0 ∷ []);
      field_89 = None;
    } ∷ [];
  });
  trailer = [];
}

pub record IsSampledFrame : Type 0 where
  pub read : frame_at sampled ≡ Ok its_sampled_frame
  pub written : written_frame its_sampled_frame ≡ sampled

pub sampled_frame : IsSampledFrame
unfolding frame_at envelope_judged envelope_at sv_at asdus_at each_within count_in required_at there_at header_at length_at integer_at any_integer_at all_visible_at counted_at fixed_in few_at written_element short_length short_integer integer_size
sampled_frame = record { read = refl; written = refl }

pub sampled_spelled : SpellsFrame its_sampled_frame sampled
sampled_spelled = frame_read_found sampled its_sampled_frame sampled_frame.read

-- ---- faults of a frame

-- the first example with another octet at a place, and with other words there
abbrev changed : ℕ → ℕ → List ℕ
changed place octet = take place goose ++ octet ∷ drop (place + 1) goose

abbrev changed_word : ℕ → ℕ → ℕ → List ℕ
changed_word place high low = take place goose ++ high ∷ low ∷ drop (place + 2) goose

-- what is answered of a frame at fault
abbrev refuses : List ℕ → Result (AFrame (Unit {0})) Fault
refuses o = frame_at o

pub record AreFrameFaults : Type 0 where
  -- an octet before the EtherType is missing, then the EtherType is judged, and only then the words behind it
  pub cut_to_13 : refuses (take 13 goose) ≡ refused 13 causes.Truncated
  pub cut_to_14 : refuses (take 14 goose) ≡ refused 14 causes.Truncated
  pub other_of_14 : refuses (take 14 (changed_word 12 0x08 0x00)) ≡ refused 12 causes.EtherType
  pub cut_to_21 : refuses (take 21 goose) ≡ refused 21 causes.Truncated
  pub other_type : refuses (changed_word 12 0x08 0x00) ≡ refused 12 causes.EtherType
  -- a tag is announced by 81 00 alone, and is followed by no other tag
  pub other_tag : refuses (take 12 goose ++ 0x88 ∷ 0xa8 ∷ 0x80 ∷ 0x01 ∷ drop 12 goose) ≡ refused 12 causes.EtherType
  pub second_tag : refuses (take 12 goose ++ 0x81 ∷ 0x00 ∷ 0x00 ∷ 0x01 ∷ 0x81 ∷ 0x00 ∷ 0x80 ∷ 0x01 ∷ drop 12 goose) ≡ refused 16 causes.EtherType
  pub cut_in_the_tag : refuses (take 12 goose ++ 0x81 ∷ 0x00 ∷ 0x80 ∷ 0x01 ∷ 0x88 ∷ []) ≡ refused 17 causes.Truncated
  -- Length is 8 to 1,500
  pub length_7 : refuses (changed_word 16 0x00 0x07) ≡ refused 16 causes.LengthField
  pub length_1501 : refuses (changed_word 16 0x05 0xdd) ≡ refused 16 causes.LengthField
  pub length_1500 : refuses (changed_word 16 0x05 0xdc) ≡ refused 67 causes.Truncated
  pub one_more : refuses (changed_word 16 0x00 0x36) ≡ refused 67 causes.Truncated
  -- an empty region of the APDU lacks its element, and octets behind the APDU but inside Length are too many
  pub length_8 : refuses (changed_word 16 0x00 0x08) ≡ refused 22 causes.ElementMissing
  pub one_added : refuses (changed_word 16 0x00 0x36 ++ 0 ∷ []) ≡ refused 67 causes.ExtraOctets
  -- the count comes last
  pub entry_count : refuses (changed 61 2) ≡ refused 59 causes.EntryCount

pub frame_faults : AreFrameFaults
unfolding frame_at envelope_judged envelope_at goose_at required_at there_at header_at length_at number_in members_in integer_at any_integer_at boolean_at all_visible_at utc_at members_at members_with member_at member_with kind_at simple_at
frame_faults = record {
  cut_to_13 = refl;
  cut_to_14 = refl;
  other_of_14 = refl;
  cut_to_21 = refl;
  other_type = refl;
  other_tag = refl;
  second_tag = refl;
  cut_in_the_tag = refl;
  length_7 = refl;
  length_1501 = refl;
  length_1500 = refl;
  one_more = refl;
  length_8 = refl;
  one_added = refl;
  entry_count = refl;
}

-- ---- tags (IEEE 802.1Q)

-- priority 7, may be dropped first, virtual network 4094; and priority 4, network 1
pub record AreTags : Type 0 where
  pub priority : priority_of 0xfffe ≡ 7
  pub drop_eligible : drop_eligible_of 0xfffe ≡ true
  pub vlan : vlan_of 0xfffe ≡ 4094
  pub priority_4 : priority_of 0x8001 ≡ 4
  pub stays : drop_eligible_of 0x8001 ≡ false
  pub vlan_1 : vlan_of 0x8001 ≡ 1

pub tags : AreTags
tags = record { priority = refl; drop_eligible = refl; vlan = refl; priority_4 = refl; stays = refl; vlan_1 = refl }

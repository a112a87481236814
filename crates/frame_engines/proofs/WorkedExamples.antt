-- What engines write of a few lists and captures, computed: a wrong definition does not check.
use Rattle.std.proofs.Common.{◌≡◌, ℕ, Bool, true, false, List, [], ◌∷◌, ◌++◌, refl}
use Rattle.std.specs.Prelude.{codes}
use Rattle.std.specs.Fmt.{digits}
use Rattle.hex.specs.Hex.{decode_pairs, encode_with}
use Rattle.ber_core.specs.computed.ContentsReading.{all_visible_at, any_integer_at, boolean_at, integer_at}
use Rattle.ber_core.specs.computed.FieldReading.{required_at, there_at}
use Rattle.ber_core.specs.computed.Reading.{header_at, length_at}
use Rattle.ber_core.specs.Written.{integer_size, short_integer, short_length, written_element}
use Rattle.mms_data.specs.computed.ContentsReading.{simple_at}
use Rattle.mms_data.specs.computed.KindReading.{kind_at}
use Rattle.mms_data.specs.computed.Reading.{member_at, member_with, members_at, members_with}
use Rattle.mms_data.specs.computed.UtcReading.{utc_at}
use Rattle.pdu_core.specs.computed.ContentsReading.{members_in, number_in}
use Rattle.pdu_core.specs.computed.GooseReading.{goose_at}
use Rattle.frame_core.specs.computed.EnvelopeReading.{envelope_at, envelope_judged}
use Rattle.list_core.specs.EventLine.{event_rules}
use Rattle.frame_core.specs.computed.FrameReading.{frame_at}
use Rattle.list_core.specs.Items.{items_said, listing}
use Rattle.list_core.specs.Lines.{finished, reading}
use Rattle.list_core.specs.declared.device.InputEnd.TheVariants.{End}
use Rattle.list_core.specs.declared.event.Event.{Event}
use Rattle.list_core.specs.declared.event_lines.EventLines.TheVariants.{First}
use Rattle.list_core.specs.declared.list_fault.ListCause.{ListCause}
use Rattle.capture_core.specs.Capture.{Capture, fault_in}
use Rattle.capture_core.specs.declared.capture_fault.CaptureCause.TheVariants.{CaptureHeader, CaptureShort}
use Rattle.frame_engines.specs.CheckText.{check_text, octets_notes}
use Rattle.engine_core.specs.EngineText.{Text}
use Rattle.engine_core.specs.computed.WholeText.{told, told_after, whole_text}
use Rattle.frame_engines.specs.ImportText.{import_text}
use Rattle.frame_engines.specs.RewriteText.{rewrite_text}
use Rattle.frame_engines.specs.ShowText.{show_text}

-- ---- lists

abbrev written : Text (Event (Unit {0})) ListCause → List ℕ → List ℕ
written t text = whole_text t (listing event_rules First End 0 text)

abbrev has_finding : Text (Event (Unit {0})) ListCause → List ℕ → Bool
has_finding t text = (told t (listing event_rules First End 0 text)).found

-- a comment, each kind of event, a frame cut behind its second octet, and a line of no form
abbrev recorded : List ℕ
recorded = codes "# a bay\nC 7\nM 8 on\nF 9 0102\nX\nC 9\n"

pub record AreLists : Type 0 where
  pub shown : written show_text recorded ≡ codes "2 clock 7000\n3 mode 8000 on\n4 fault 2 Truncated\n5 list LineForm\n"
  pub rewritten : written rewrite_text recorded ≡ codes "V2\nC 7000\nM 8000 on\nF 9000 0102\n# 5 list LineForm\n"
  pub checked : written check_text recorded ≡ codes "4 fault 2 Truncated\n5 list LineForm\n"
  -- of an empty list `rewrite` alone writes something
  pub none_shown : written show_text [] ≡ []
  pub none_rewritten : written rewrite_text [] ≡ codes "V2\n"
  pub none_checked : written check_text [] ≡ []
  -- `show` has no findings; a frame that keeps its octets is one of `rewrite`, and a note one of `check`
  pub show_finds : has_finding show_text recorded ≡ false
  pub rewrite_finds : has_finding rewrite_text recorded ≡ true
  pub check_finds : has_finding check_text recorded ≡ true
  pub clock_is_none : has_finding check_text (codes "C 7\n") ≡ false

pub lists : AreLists
unfolding reading items_said decode_pairs encode_with digits told_after frame_at envelope_judged envelope_at
lists = record { shown = refl; rewritten = refl; checked = refl; none_shown = refl; none_rewritten = refl; none_checked = refl; show_finds = refl; rewrite_finds = refl; check_finds = refl; clock_is_none = refl }

-- the list examples/one_frame.list: `show` of it as examples/README.md has it, and its octets stand written
abbrev one_frame : List ℕ
one_frame = codes "# A frame of a publisher G: status number 1, sequence number 0, one boolean.\nF 0 010ccd01000102000000000188b80001003500000000612b800147810207d0820144840800000000000000008501018601008701008801018901008a0101ab038301ff\n"

pub record IsOneFrame : Type 0 where
  pub shown : written show_text one_frame
      ≡ codes "2 goose 010ccd010001 020000000001 tag=- appid=0001 r1=0000 r2=0000 ref=\"G\" live=2000 set=\"D\" id=- t=0000000000000000 st=1 sq=0 sim=false rev=1 com=false {true} trailer=-\n"
  pub rewritten : written rewrite_text one_frame
      ≡ codes "V2\nF 0 010ccd01000102000000000188b80001003500000000612b800147810207d0820144840800000000000000008501018601008701008801018901008a0101ab038301ff\n"
  pub checked : written check_text one_frame ≡ []

frame_shown : IsOneFrame
unfolding reading items_said decode_pairs encode_with digits told_after frame_at envelope_judged envelope_at goose_at required_at there_at header_at length_at number_in members_in integer_at any_integer_at boolean_at all_visible_at utc_at members_at members_with member_at member_with kind_at simple_at written_element short_length short_integer integer_size
frame_shown = record { shown = refl; rewritten = refl; checked = refl }

-- ---- notes on a frame

-- a frame of GOOSE behind its destination, whose one member is true, and this octet says so
abbrev behind_destination : ℕ → List ℕ
behind_destination truth =
    0x02 ∷ 0x00 ∷ 0x00 ∷ 0x00 ∷ 0x00 ∷ 0x01 ∷ 0x88 ∷ 0xb8 ∷ 0x00 ∷ 0x01 ∷ 0x00 ∷ 0x35 ∷ 0x00 ∷ 0x00 ∷ 0x00 ∷ 0x00
    ∷ 0x61 ∷ 0x2b ∷ 0x80 ∷ 0x01 ∷ 0x47 ∷ 0x81 ∷ 0x02 ∷ 0x07 ∷ 0xd0 ∷ 0x82 ∷ 0x01 ∷ 0x44 ∷ 0x84 ∷ 0x08 ∷ 0x00 ∷ 0x00 ∷ 0x00 ∷ 0x00 ∷ 0x00 ∷ 0x00 ∷ 0x00 ∷ 0x00
    ∷ 0x85 ∷ 0x01 ∷ 0x01 ∷ 0x86 ∷ 0x01 ∷ 0x00 ∷ 0x87 ∷ 0x01 ∷ 0x00 ∷ 0x88 ∷ 0x01 ∷ 0x01 ∷ 0x89 ∷ 0x01 ∷ 0x00 ∷ 0x8a ∷ 0x01 ∷ 0x01 ∷ 0xab ∷ 0x03 ∷ 0x83 ∷ 0x01 ∷ truth ∷ []

-- the first recommended destination of GOOSE, and one that is none
abbrev recommended : List ℕ
recommended = 0x01 ∷ 0x0c ∷ 0xcd ∷ 0x01 ∷ 0x00 ∷ 0x00 ∷ []

abbrev other : List ℕ
other = 0x01 ∷ 0x0c ∷ 0xcd ∷ 0x04 ∷ 0x00 ∷ 0x00 ∷ []

pub record AreNotes : Type 0 where
  pub none : octets_notes 1 (recommended ++ behind_destination 0xff) ≡ []
  pub destination : octets_notes 2 (other ++ behind_destination 0xff) ≡ codes "2 destination\n"
  pub other_truth : octets_notes 3 (recommended ++ behind_destination 0x01) ≡ codes "3 not-written\n"
  pub both : octets_notes 4 (other ++ behind_destination 0x01) ≡ codes "4 not-written\n4 destination\n"

pub are_notes : AreNotes
unfolding digits frame_at envelope_judged envelope_at goose_at required_at there_at header_at length_at number_in members_in integer_at any_integer_at boolean_at all_visible_at utc_at members_at members_with member_at member_with kind_at simple_at written_element short_length short_integer integer_size
are_notes = record { none = refl; destination = refl; other_truth = refl; both = refl }

-- ---- captures

-- a record of three octets, one of none, which no list can hold, and a record that is cut
abbrev recorded_capture : Capture
recorded_capture = record {
  records = (1, record { moment = 1000002; octets = 0xaa ∷ 0xbb ∷ 0xcc ∷ [] }) ∷ (2, record { moment = 1000003; octets = [] }) ∷ [];
  stop = fault_in 3 CaptureShort;
}

pub record AreCaptures : Type 0 where
  pub imported : import_text recorded_capture ≡ codes "V2\nF 1000002 aabbcc\n# record 2 of 0 octets left out\n# 3 capture CaptureShort\n"
  pub none_imported : import_text (record { records = []; stop = finished }) ≡ codes "V2\n"
  pub no_capture : import_text (record { records = []; stop = fault_in 0 CaptureHeader }) ≡ codes "V2\n# 0 capture CaptureHeader\n"

pub captures : AreCaptures
unfolding digits encode_with
captures = record { imported = refl; none_imported = refl; no_capture = refl }

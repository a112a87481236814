-- What engines write of a few lists, computed: a wrong definition does not check.
use Rattle.std.proofs.Common.{◌≡◌, ℕ, Bool, true, List, [], ◌∷◌, ◌++◌, None, refl}
use Rattle.std.specs.Prelude.{codes}
use Rattle.std.specs.Fmt.{digits}
use Rattle.hex.specs.Hex.{decode_pairs, encode_with}
use Rattle.ber_core.specs.computed.ContentsReading.{all_visible_at, any_integer_at, boolean_at, counted_at, integer_at}
use Rattle.ber_core.specs.computed.FieldReading.{required_at, there_at}
use Rattle.ber_core.specs.computed.Reading.{header_at, length_at}
use Rattle.ber_core.specs.computed.RepeatedReading.{each_within}
use Rattle.mms_data.specs.computed.ContentsReading.{simple_at}
use Rattle.mms_data.specs.computed.KindReading.{kind_at}
use Rattle.mms_data.specs.computed.Reading.{member_at, member_with, members_at, members_with}
use Rattle.mms_data.specs.computed.UtcReading.{utc_at}
use Rattle.pdu_core.specs.computed.ContentsReading.{few_at, fixed_in, members_in, number_in}
use Rattle.pdu_core.specs.computed.GooseReading.{goose_at}
use Rattle.pdu_core.specs.computed.SampledReading.{asdus_at, count_in, sv_at}
use Rattle.frame_core.specs.computed.EnvelopeReading.{envelope_at, envelope_judged}
use Rattle.list_core.specs.EventLine.{event_rules}
use Rattle.frame_core.specs.computed.FrameReading.{frame_at}
use Rattle.list_core.specs.Items.{items_said, listing}
use Rattle.list_core.specs.Lines.{reading}
use Rattle.list_core.specs.declared.device.InputEnd.TheVariants.{End}
use Rattle.list_core.specs.declared.event.Event.{Event}
use Rattle.list_core.specs.declared.event_lines.EventLines.TheVariants.{First}
use Rattle.list_core.specs.declared.list_fault.ListCause.{ListCause}
use Rattle.block_core.specs.declared.block.Block.{Block}
use Rattle.subscribe_core.specs.declared.watch.Seen.TheVariants as seen
use Rattle.engine_core.specs.EngineText.{Text}
use Rattle.engine_core.specs.computed.WholeText.{told, told_after, whole_text}
use Rattle.exchange_engines.specs.PublishText.{answer_text}
use Rattle.exchange_engines.specs.computed.ReplayStep.{replay_text}
use Rattle.exchange_engines.specs.ReplayText.{twice_line}
use Rattle.exchange_engines.specs.computed.WatchStep.{watch_text}
use Rattle.exchange_engines.specs.WatchText.{in_lines, sample_lines}

-- ---- lists

abbrev written : Text (Event (Unit {0})) ListCause → List ℕ → List ℕ
written t text = whole_text t (listing event_rules First End 0 text)

abbrev has_finding : Text (Event (Unit {0})) ListCause → List ℕ → Bool
has_finding t text = (told t (listing event_rules First End 0 text)).found

-- the list examples/one_frame.list
abbrev one_frame : List ℕ
one_frame = codes "# A frame of a publisher G: status number 1, sequence number 0, one boolean.\nF 0 010ccd01000102000000000188b80001003500000000612b800147810207d0820144840800000000000000008501018601008701008801018901008a0101ab038301ff\n"

-- ---- what subscribers and counters answer

-- the control block G of that frame, without a goID
abbrev block : Block (Unit {0})
block = record { app_id = 1; gocb_ref = codes "G"; dat_set = codes "D"; go_id = None; conf_rev = 1; entries = 1 }

-- its frame comes twice, and lives two seconds from the first time on: one that is repeated renews nothing
abbrev repeated : List ℕ
repeated = one_frame ++ codes "F 1 010ccd01000102000000000188b80001003500000000612b800147810207d0820144840800000000000000008501018601008701008801018901008a0101ab038301ff\nC 1999\nC 2000\n"

pub replayed : written (replay_text (block ∷ [])) repeated ≡ codes "2 act 0 st=1 sq=0 t=0000000000000000 {true}\n3 repeated 0 st=1 sq=0\n5 expired 0\n"
unfolding reading items_said decode_pairs encode_with digits told_after frame_at envelope_judged envelope_at goose_at required_at there_at header_at length_at number_in members_in integer_at any_integer_at boolean_at all_visible_at utc_at members_at members_with member_at member_with kind_at simple_at
replayed = refl

-- two frames of a stream MU01 at 4,000 samples a second, with two ASDUs each: behind 3999 comes 0, and behind that 2 and 3 are lost
abbrev sampled : List ℕ
sampled = codes "F 0 010ccd04000102000000000188ba40000041000000006037800102a232301780044d553031820200008304000000018501028702002a301780044d553031820200018304000000018501028702002a\nF 1 010ccd04000102000000000188ba40000041000000006037800102a232301780044d553031820200048304000000018501028702002a301780044d553031820200058304000000018501028702002a\n"

pub record AreSampled : Type 0 where
  pub watched : written (watch_text 4000 (codes "MU01")) sampled ≡ codes "1 0 0 first\n1 1 1 next\n2 0 4 skipped 2\n2 1 5 next\n"
  pub finds : has_finding (watch_text 4000 (codes "MU01")) sampled ≡ true
  pub other_stream : written (watch_text 4000 (codes "MU02")) sampled ≡ []

pub are_sampled : AreSampled
unfolding reading items_said decode_pairs encode_with digits told_after frame_at envelope_judged envelope_at sv_at asdus_at each_within count_in required_at there_at header_at length_at integer_at any_integer_at all_visible_at counted_at fixed_in few_at
are_sampled = record { watched = refl; finds = refl; other_stream = refl }

-- ---- samples and single lines

pub record AreLines : Type 0 where
  pub watched : sample_lines (in_lines 4) (record { position = 0; count = 7 } ∷ record { position = 1; count = 10 } ∷ []) (seen.First ∷ seen.Skipped 2 ∷ []) ≡ codes "4 0 7 first\n4 1 10 skipped 2\n"
  pub nothing_sent : answer_text {A = Unit {0}} 7 None ≡ []
  pub twice : twice_line 1 ≡ codes "blocks SameBlockTwice 1\n"

pub lines : AreLines
unfolding digits encode_with
lines = record { watched = refl; nothing_sent = refl; twice = refl }

-- A reader of a capture looks at the events of its packets, and counts those that were not captured on Ethernet.
use Rattle.std.proofs.Common.{Option, Some, true, ◌≡◌, ◌≤◌, ◌+◌, ℕ, List, [], ◌∷◌, length, inl, inr, ap, sym, ◌∙◌, refl, arith}
use Rattle.std.specs.Global.{Global}
use Rattle.std.proofs.lemmas.List.{length-append}
use Rattle.list_core.specs.declared.device.InputEnd.{InputEnd}
use Rattle.list_core.specs.declared.device.InputEnd.TheVariants.{Open}
use Rattle.list_core.specs.declared.event.Event.{Event}
use Rattle.list_core.specs.Items.{Numbered}
use Rattle.list_core.specs.ReadItems.{AnswerOf}
use Rattle.tally_core.specs.Tally.{no_tally}
use Rattle.capture_core.specs.declared.capture_fault.CaptureCause.{CaptureCause}
use Rattle.capture_core.specs.declared.capture_fault.CaptureFault.{CaptureFault}
use Rattle.capture_core.specs.declared.packet_reader.PacketReader.{PacketReader}
use Rattle.capture_core.specs.Captured.{captured_events, captured_packets}
use Rattle.capture_core.specs.Packets.{Packet}
use Rattle.capture_core.specs.PacketReader.{AnswersPacket, PacketState, at_start, packet_number, packet_state}
use Rattle.capture_core.proofs.PacketsTaken.{taken_then}
use Rattle.engine_core.specs.declared.ending.Ending.{Ending}
use Rattle.engine_core.specs.CaptureRun.{TellsNoMore, capture_faults, capture_input}
use Rattle.engine_core.specs.Input.{GaveThen, IsRead, Reader}
use Rattle.engine_core.proofs.CaptureRuns.{capture_read, gave_taken, gives_packet}
use Rattle.engine_core.proofs.InputRuns.{GivenSo, none_given}
use Rattle.engine_core.proofs.ReadFaults.{capture_blames}
use Rattle.task_engine.specs.EventReader.{LeftOrReads, LooksFrom, capture_look, capture_state}
use Rattle.task_engine.specs.HandedOut.{LinksWhere, ReachesInCapture}
use Rattle.task_engine.proofs.LinkLemmas.{counted_in}
use Rattle.task_engine.proofs.ReaderStates.{gave_states}

-- where nothing was read of a capture
none_in_capture : (n : ℕ) → ReachesInCapture [] n
none_in_capture n [] rest parts some = absurd (some (sym parts))
none_in_capture n (x ∷ front) rest parts some = absurd (cc)

-- where no more than these events are told by octets, those have no more
told_fewer : {A : Type 0} (items : List (ℕ × Event A)) (octets : List ℕ) → TellsNoMore items octets → length (captured_events {A = A} Open octets).items ≤ length items
told_fewer {A} items octets t =
    let is = ap (λ (l : Numbered (Event A) CaptureFault). length l.items) t.tells in
    let all : length items ≡ length t.told + length t.others = ap length t.parts ∙ length-append t.told t.others in
    omega (arith, all, is)

module _ {R : Type 0} (left : R → Option (List ℕ)) (told : R → InputEnd) where
  abbrev state : PacketReader R Global → PacketState
  state x = packet_state left told x

  abbrev packets : Reader (PacketReader R Global) (Event Global) CaptureCause CaptureFault
  packets = record { answers = λ before answer after. AnswersPacket (state before) answer (state after); number = λ s. packet_number s; faults = capture_faults }

  module _ (start : PacketReader R Global) (fresh : (state start).stage ≡ at_start) (is_open : (state start).ending ≡ Open) (none : (state start).other_links ≡ no_tally) where
    capture_reads : (end : PacketReader R Global) (items : List (ℕ × Event Global)) (answer : AnswerOf (Event Global) CaptureFault) → GaveThen packets start end items answer →
        GivenSo (state start).left (state end).left (λ given. IsRead capture_input (state end).ending given items answer)
    capture_reads end items answer gave =
        capture_read (state start) (state gave.before) (state end) items answer fresh is_open (gave_states AnswersPacket state start gave.before items gave.gave) gave.answered

    capture_links : (end : PacketReader R Global) (ending : Ending) → LeftOrReads packets start end ending → LinksWhere true ending (state end).ending (state start).left (state end).left (Some (state end).other_links)
    capture_links end ending (inl same) =
        let nothing : (captured_packets Open []).items ≡ [] = refl in
        rw same (
          (state start).other_links,
          refl,
          ([], none_given _, rw is_open (record { read = 0; all = λ r. let few = ap (λ (l : List (ℕ × Packet)). length l) nothing in omega (arith, few); far = none_in_capture 0; is_tally = none })),
        )
    capture_links end ending (inr r) =
        let g = r.gave in
        let ran = taken_then (state start) (state g.before) (state end) r.items r.answer (gave_taken (state start) (state g.before) r.items (gave_states AnswersPacket state start g.before r.items g.gave)) g.answered in
        ((state end).other_links, refl, (ran.given, gives_packet r.answer _ _ ran.given ran.took, counted_in (state start) (state end) r.items r.answer fresh none ran ending r.all))

    pub capture_looks : LooksFrom packets capture_look (λ s. capture_state (state s)) start
    capture_looks = record {
      faults = refl;
      blames = capture_blames Global;
      none = (refl, none_in_capture 0);
      reaches = λ z read items answer s.
          let far : ReachesInCapture read (length items) = λ front rest parts some. told_fewer items front (s.asked front rest parts (inl some)) in
          (far, λ front rest parts some. let few = far front rest parts some in omega (arith, few));
      is_open = is_open;
      reads = capture_reads;
      passes = λ end ending l. refl;
      links = capture_links;
    }

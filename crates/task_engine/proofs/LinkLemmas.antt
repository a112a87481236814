-- How many of the packets that a capture's reader gave were not captured on Ethernet.
use Rattle.std.proofs.Common.{Some, None, Ok, Err, ◌≡◌, ◌≤◌, ◌+◌, ℕ, List, [], ◌∷◌, ◌++◌, length, take, inl, ap, sym, ◌∙◌, refl, subst, arith}
use Rattle.std.specs.Global.{Global}
use Rattle.std.proofs.lemmas.List.{append_assoc, append-nil, length-append, length-map}
use Rattle.std.proofs.lemmas.Grind.{flat_map-append}
use Rattle.list_core.specs.declared.device.InputEnd.TheVariants.{Open}
use Rattle.list_core.specs.declared.event.Event.{Event}
use Rattle.list_core.specs.Items.{Numbered}
use Rattle.list_core.proofs.Readers.{CanFollow-none}
use Rattle.tally_core.specs.Tally.{Tally, count_all, no_tally}
use Rattle.tally_core.proofs.Tallies.{count_append}
use Rattle.capture_core.specs.declared.capture_fault.CaptureFault.{CaptureFault}
use Rattle.capture_core.specs.Captured.{captured_events, captured_packets}
use Rattle.capture_core.specs.Packets.{Packet, event_of, other_link, other_links_in}
use Rattle.capture_core.specs.PacketReader.{CountsPacket, PacketAnswer, PacketState, TellsPacket, at_start, events_behind, packets_behind, packets_from}
use Rattle.capture_core.proofs.PacketsTaken.{CountedFirst, RanPackets, TellsSome, behind_start}
use Rattle.engine_core.specs.declared.ending.Ending.{Ending}
use Rattle.task_engine.specs.EventReader.{TellsStop}
use Rattle.task_engine.specs.HandedOut.{CountsLinks, ReachesInCapture, ReadsAll}
use Rattle.task_engine.proofs.PassedLemmas.{take_front}

module _ (a c : PacketState) (items : List (ℕ × Event Global)) (answer : PacketAnswer Global) (fresh : a.stage ≡ at_start) (none : a.other_links ≡ no_tally) (ran : RanPackets a items answer c) where
  abbrev whole : Numbered Packet CaptureFault
  whole = packets_behind a c.ending (ran.given ++ [])

  -- the octets tell so many events before the last octet
  reaches : (n : ℕ) → length items ≤ n → ReachesInCapture ran.given n
  reaches n enough front rest parts some =
      let t : TellsSome items (events_behind a Open front) = ran.asked front rest parts (inl some) in
      let told : length (captured_events {A = Global} Open front).items ≡ length t.0 =
      ap (λ (l : Numbered (Event Global) CaptureFault). length l.items) (sym (behind_start a Open front fresh) ∙ t.3) in
      let all : length items ≡ length t.0 + length t.1 = ap length t.2 ∙ length-append t.0 t.1 in
      omega (arith, enough, told, all)

  -- all were read, where the answer tells how the capture stops
  ends_there : (onward : Numbered (Event Global) CaptureFault) → events_behind a c.ending (ran.given ++ []) ≡ record { items = items ++ onward.items; stop = onward.stop } → onward.items ≡ [] → length whole.items ≤ length items
  ends_there onward says over =
      let events : length (events_behind {A = Global} a c.ending (ran.given ++ [])).items ≡ length (items ++ []) = ap (λ (l : Numbered (Event Global) CaptureFault). length l.items) says ∙ ap (λ (es : List (ℕ × Event Global)). length (items ++ es)) over in
      let packets : length (events_behind {A = Global} a c.ending (ran.given ++ [])).items ≡ length whole.items = length-map whole.items (λ (p : ℕ × Packet). (p.0, event_of p.1)) in
      let same : length (items ++ []) ≡ length items = ap length (append-nil items) in
      omega (arith, events, packets, same)

  all_read : TellsStop answer → length whole.items ≤ length items
  all_read h = stops answer refl h
    where
      stops : (o : PacketAnswer Global) → answer ≡ o → TellsStop o → length whole.items ≤ length items
      stops (Ok (Some e)) is h = absurd h
      stops (Err None) is h = absurd h
      stops o is h =
          let r = ran.reads [] c.ending (CanFollow-none c.ending) in
          let tells = subst (λ (o : PacketAnswer Global). TellsPacket o r.0 (events_behind c c.ending [])) is r.2 in
          ends_there r.0 r.1 (ap (λ (l : Numbered (Event Global) CaptureFault). l.items) tells.0)

  -- the packets of the events, and none behind them
  counted_so : (ending : Ending) (onward : Numbered Packet CaptureFault) (first : CountedFirst a items whole onward c.other_links) → (ReadsAll ending → TellsStop answer) → CountsLinks whole ending (ReachesInCapture ran.given) c.other_links
  counted_so ending onward first stop =
      let many : length first.packets ≡ length items = sym (ap length first.are_events ∙ length-map first.packets (λ (p : ℕ × Packet). (p.0, event_of p.1))) in
      record {
        read = length first.packets;
        all = λ r. let few = all_read (stop r) in omega (arith, few, many);
        far = reaches (length first.packets) (omega (arith, many));
        is_tally = first.is_tally ∙ ap (count_all (other_links_in first.packets)) none
            ∙ ap (λ (ps : List (ℕ × Packet)). count_all (other_links_in ps) no_tally) (sym (ap (λ (l : Numbered Packet CaptureFault). take (length first.packets) l.items) first.come_first ∙ take_front first.packets onward.items));
      }

  -- the packets of the events, and that of the answer
  counted_more : (ending : Ending) (onward rest : Numbered Packet CaptureFault) (tally : Tally) (e : ℕ × Event Global) (first : CountedFirst a items whole onward tally) → CountsPacket (Ok (Some e)) onward rest tally c.other_links → (ReadsAll ending → ⊥) →
      CountsLinks whole ending (ReachesInCapture ran.given) c.other_links
  counted_more ending onward rest tally e first (p, is, comes, kept) stop =
      let many : length first.packets ≡ length items = sym (ap length first.are_events ∙ length-map first.packets (λ (p : ℕ × Packet). (p.0, event_of p.1))) in
      let all = first.packets ++ (e.0, p) ∷ [] in
      let more : length all ≡ length first.packets + 1 = length-append first.packets ((e.0, p) ∷ []) in
      let parts : whole.items ≡ all ++ rest.items =
      ap (λ (l : Numbered Packet CaptureFault). l.items) first.come_first ∙ ap (λ (l : Numbered Packet CaptureFault). first.packets ++ l.items) comes ∙ sym (append_assoc first.packets ((e.0, p) ∷ []) rest.items) in
      let links : other_links_in all ≡ other_links_in first.packets ++ other_links_in ((e.0, p) ∷ []) = flat_map-append (λ (x : ℕ × Packet). other_link x.0 x.1.link_type) first.packets ((e.0, p) ∷ []) in
      let one : other_links_in ((e.0, p) ∷ []) ≡ other_link e.0 p.link_type = append-nil (other_link e.0 p.link_type) in
      record {
        read = length all;
        all = λ r. absurd (stop r);
        far = reaches (length all) (omega (arith, many, more));
        is_tally = kept ∙ ap (count_all (other_link e.0 p.link_type)) (first.is_tally ∙ ap (count_all (other_links_in first.packets)) none)
            ∙ ap (λ (fs : List (ℕ × ℕ)). count_all fs (count_all (other_links_in first.packets) no_tally)) (sym one)
            ∙ sym (count_append (other_links_in first.packets) (other_links_in ((e.0, p) ∷ [])) no_tally)
            ∙ ap (λ (fs : List (ℕ × ℕ)). count_all fs no_tally) (sym links)
            ∙ ap (λ (ps : List (ℕ × Packet)). count_all (other_links_in ps) no_tally) (sym (ap (take (length all)) parts ∙ take_front all rest.items));
      }

  counted_by : (ending : Ending) → (ReadsAll ending → TellsStop answer) → CountsLinks whole ending (ReachesInCapture ran.given) c.other_links
  counted_by ending stop =
      let k = ran.counted [] c.ending (CanFollow-none c.ending) in
      by answer refl k.0 k.1 k.2 k.3
    where
      by : (o : PacketAnswer Global) → answer ≡ o → (onward : Numbered Packet CaptureFault) (tally : Tally) → CountedFirst a items whole onward tally → CountsPacket answer onward (packets_behind c c.ending []) tally c.other_links →
          CountsLinks whole ending (ReachesInCapture ran.given) c.other_links
      by (Ok (Some e)) is onward tally first counts =
          counted_more ending onward _ tally e first (subst (λ (o : PacketAnswer Global). CountsPacket o onward (packets_behind c c.ending []) tally c.other_links) is counts) (λ r. subst (λ (o : PacketAnswer Global). TellsStop o) is (stop r))
      by o is onward tally first counts =
          let same = subst (λ (o : PacketAnswer Global). CountsPacket o onward (packets_behind c c.ending []) tally c.other_links) is counts in
          counted_so ending onward (subst (λ (t : Tally). CountedFirst a items whole onward t) (sym same) first) stop

  -- so of the capture from its start on
  pub counted_in : (ending : Ending) → (ReadsAll ending → TellsStop answer) → CountsLinks (captured_packets c.ending ran.given) ending (ReachesInCapture ran.given) c.other_links
  counted_in ending stop =
      let is : whole ≡ captured_packets c.ending ran.given = ap (packets_behind a c.ending) (append-nil ran.given) ∙ ap (λ s. packets_from s a.answered a.most c.ending ran.given) fresh in
      subst (λ (l : Numbered Packet CaptureFault). CountsLinks l ending (ReachesInCapture ran.given) c.other_links) is (counted_by ending stop)

-- What a reader of packets says by the events that it gave one after another, and by its next answer.
use Rattle.std.proofs.Common.{◌≡◌, ℕ, List, [], ◌∷◌, ◌++◌, Some, Ok, ap, sym, ◌∙◌, refl, append_assoc}
use Rattle.std.specs.Io.KnownBytes.{Consumes}
use Rattle.list_core.specs.declared.device.InputEnd.{InputEnd}
use Rattle.list_core.specs.declared.device.InputEnd.TheVariants.{Open}
use Rattle.list_core.specs.declared.event.Event.{Event}
use Rattle.list_core.specs.Device.{OnlyOpen}
use Rattle.list_core.specs.Lines.{WhateverComes, unfinished}
use Rattle.std.proofs.lemmas.List.{append-nil}
use Rattle.list_core.specs.Items.{put_items}
use Rattle.list_core.proofs.Devices.{Consumes-append, Consumes-none}
use Rattle.list_core.proofs.Readers.{CanFollow-given, OnlyOpen-append, OnlyOpen-none}
use Rattle.tally_core.specs.Tally.{Tally, count_all}
use Rattle.tally_core.proofs.Tallies.{count_append}
use Rattle.capture_core.specs.Packets.{Numbered, Packet, event_of, events_of, other_link, other_links_in, put_numbered}
use Rattle.capture_core.specs.Captured.{captured_events}
use Rattle.capture_core.specs.Asked.{OnlyWhile}
use Rattle.capture_core.specs.Laws.{events_in}
use Rattle.capture_core.specs.PacketReader.{AnswersPacket, CountsPacket, GivesPacket, PacketAnswer, PacketState, TellsPacket, at_start, events_behind, packets_behind, packets_from}
use Rattle.capture_core.proofs.Fronts.{asked_none}
use Rattle.capture_core.proofs.StepsTogether.{asked_after, gives_after}

-- some of these things are told, from the first on, and nothing else yet
abbrev pub TellsSome : {X : Type 0} → List (ℕ × X) → Numbered X → Type 0
TellsSome {X = X} items l = (front : List (ℕ × X)) × (rest : List (ℕ × X)) × (items ≡ front ++ rest) × (l ≡ record { items = front; stop = unfinished })

-- some of these things are told, from the first on, but not all
abbrev pub TellsFewer : {X : Type 0} → List (ℕ × X) → Numbered X → Type 0
TellsFewer {X = X} items l = (front : List (ℕ × X)) × (next : ℕ × X) × (rest : List (ℕ × X)) × (items ≡ front ++ next ∷ rest) × (l ≡ record { items = front; stop = unfinished })

-- The first packets of a capture are those of these events, and the tally is the one before and those of them that were not captured on Ethernet.
pub record CountedFirst {A : Type 0} (old : PacketState) (items : List (ℕ × Event A)) (whole rest : Numbered Packet) (tally : Tally) : Type 0 where
  pub packets : List (ℕ × Packet)
  pub are_events : items ≡ events_in packets
  pub come_first : whole ≡ put_items packets rest
  pub is_tally : tally ≡ count_all (other_links_in packets) old.other_links

-- These events were given, each once its octets were there and before others were asked for: whatever still comes, the capture tells them first.
pub record TookPackets {A : Type 0} (old : PacketState) (items : List (ℕ × Event A)) (new : PacketState) : Type 0 where
  pub given : List ℕ
  pub took : Consumes old.left new.left given
  pub only_open : OnlyOpen old.ending given new.ending
  pub asked : OnlyWhile (λ front. TellsFewer items (events_behind {A = A} old Open front)) given old.ending new.ending
  pub reads : WhateverComes new.ending (λ z more. events_behind old z (given ++ more) ≡ put_items items (events_behind new z more))
  pub counted : WhateverComes new.ending (λ z more. CountedFirst old items (packets_behind old z (given ++ more)) (packets_behind new z more) new.other_links)

-- These events were given, and then this answer: whatever still comes, the capture tells the events, and onward what the answer says.
pub record RanPackets {A : Type 0} (old : PacketState) (items : List (ℕ × Event A)) (answer : PacketAnswer A) (new : PacketState) : Type 0 where
  pub given : List ℕ
  pub took : GivesPacket answer old.left new.left given
  pub only_open : OnlyOpen old.ending given new.ending
  pub asked : OnlyWhile (λ front. TellsSome items (events_behind {A = A} old Open front)) given old.ending new.ending
  pub counted : WhateverComes new.ending (λ z more. (onward : Numbered Packet) × (tally : Tally) × CountedFirst old items (packets_behind old z (given ++ more)) onward tally × CountsPacket answer onward (packets_behind new z more) tally new.other_links)
  pub reads : WhateverComes new.ending (λ z more. (onward : Numbered (Event A)) × (events_behind old z (given ++ more) ≡ put_items items onward) × TellsPacket answer onward (events_behind new z more))

-- a reader at its start tells the whole capture
pub behind_start : {A : Type 0} (s : PacketState) (z : InputEnd) (octets : List ℕ) → s.stage ≡ at_start → events_behind {A = A} s z octets ≡ captured_events z octets
behind_start s z octets e = ap (λ t. events_of (packets_from t s.answered s.most z octets)) e

-- no event
pub taken_none : {A : Type 0} (s : PacketState) → TookPackets {A = A} s [] s
taken_none s = record {
  given = [];
  took = Consumes-none s.left;
  only_open = OnlyOpen-none s.ending;
  asked = asked_none _ s.ending;
  reads = λ more y f. refl;
  counted = λ more y f. record { packets = []; are_events = refl; come_first = refl; is_tally = refl };
}

-- an event before others
pub taken_more : {A : Type 0} (a b c : PacketState) (e : ℕ × Event A) (es : List (ℕ × Event A)) → AnswersPacket a (Ok (Some e)) b → TookPackets b es c → TookPackets a (e ∷ es) c
taken_more {A = A} a b c e es p q = record {
  given = p.given ++ q.given;
  took = Consumes-append a.left b.left c.left p.given q.given p.took q.took;
  only_open = OnlyOpen-append a.ending b.ending c.ending p.given q.given p.only_open q.only_open;
  asked = asked_after _ _ p.given q.given a.ending b.ending c.ending p.only_open q.only_open (λ front rest i w. ([], e, es, refl, p.asked front rest i w)) q.asked
      (λ f h t. (e ∷ t.0, t.1, t.2, ap (λ l. e ∷ l) t.3, p.reads f Open h ∙ ap (put_numbered e) t.4));
  reads = λ more y f. ap (events_behind a y) (append_assoc p.given q.given more) ∙ p.reads (q.given ++ more) y (CanFollow-given b.ending c.ending q.given more y q.only_open f) ∙ ap (put_numbered e) (q.reads more y f);
  counted = λ more y f.
      let first = p.counted (q.given ++ more) y (CanFollow-given b.ending c.ending q.given more y q.only_open f) in
      let others = q.counted more y f in
      record {
        packets = (e.0, first.0) ∷ others.packets;
        are_events = ap (λ (k : Event A). (e.0, k) ∷ es) first.1 ∙ ap (λ (l : List (ℕ × Event A)). (e.0, event_of first.0) ∷ l) others.are_events;
        come_first = ap (packets_behind a y) (append_assoc p.given q.given more) ∙ first.2 ∙ ap (put_numbered (e.0, first.0)) others.come_first;
        is_tally = others.is_tally ∙ ap (count_all (other_links_in others.packets)) first.3 ∙ sym (count_append (other_link e.0 first.0.link_type) (other_links_in others.packets) a.other_links);
      };
}

-- events, and then an answer
unfoldable pub taken_then : {A : Type 0} (a b c : PacketState) (items : List (ℕ × Event A)) (answer : PacketAnswer A) → TookPackets a items b → AnswersPacket b answer c → RanPackets a items answer c
taken_then a b c items answer p q = record {
  given = p.given ++ q.given;
  took = gives_after answer a.left b.left c.left p.given q.given p.took q.took;
  only_open = OnlyOpen-append a.ending b.ending c.ending p.given q.given p.only_open q.only_open;
  asked = asked_after _ _ p.given q.given a.ending b.ending c.ending p.only_open q.only_open (λ front rest i w. let t = p.asked front rest i w in (t.0, t.1 ∷ t.2, t.3, t.4)) q.asked
      (λ f h t. (items, [], sym (append-nil items), p.reads f Open h ∙ ap (put_items items) t ∙ ap (λ l. record { items = l; stop = unfinished }) (append-nil items)));
  reads = λ more y f. (
    events_behind b y (q.given ++ more),
    ap (events_behind a y) (append_assoc p.given q.given more) ∙ p.reads (q.given ++ more) y (CanFollow-given b.ending c.ending q.given more y q.only_open f),
    q.reads more y f,
  );
  counted = λ more y f.
      let others = p.counted (q.given ++ more) y (CanFollow-given b.ending c.ending q.given more y q.only_open f) in (
        packets_behind b y (q.given ++ more),
        b.other_links,
        record { packets = others.packets; are_events = others.are_events; come_first = ap (packets_behind a y) (append_assoc p.given q.given more) ∙ others.come_first; is_tally = others.is_tally },
        q.counted more y f,
      );
}

-- whatever comes behind events and an answer, the capture tells the events, and then what the reader told before the answer
pub taken_before : {A : Type 0} (a b c : PacketState) (items : List (ℕ × Event A)) (answer : PacketAnswer A) (p : TookPackets a items b) (q : AnswersPacket b answer c) →
    WhateverComes c.ending (λ y more. events_behind a y ((p.given ++ q.given) ++ more) ≡ put_items items (events_behind b y (q.given ++ more)))
taken_before a b c items answer p q = λ more y f.
    ap (events_behind a y) (append_assoc p.given q.given more) ∙ p.reads (q.given ++ more) y (CanFollow-given b.ending c.ending q.given more y q.only_open f)

-- What a reader of packets gave and then answered is read of the capture, no further than the answer needs.
use Rattle.std.proofs.Common.{Option, Some, None, Ok, Err, ◌≡◌, ◌≢◌, ◌⊎◌, ℕ, List, [], ◌∷◌, ◌++◌, inl, inr, ap, sym, ◌∙◌, refl, subst}
use Rattle.std.proofs.lemmas.List.{append-nil, append_assoc}
use Rattle.list_core.specs.declared.device.InputEnd.{InputEnd}
use Rattle.list_core.specs.declared.device.InputEnd.TheVariants.{End, Failed, Open}
use Rattle.list_core.specs.declared.event.Event.{Event}
use Rattle.list_core.specs.Device.{GivesOctets}
use Rattle.list_core.specs.Items.{Numbered, put_items}
use Rattle.list_core.specs.Lines.{WhateverComes, unfinished}
use Rattle.list_core.specs.ReadItems.{Gave}
use Rattle.list_core.proofs.Devices.{Gives-from_Consumes}
use Rattle.list_core.proofs.Readers.{CanFollow-none}
use Rattle.capture_core.specs.declared.capture_fault.CaptureFault.{CaptureFault}
use Rattle.capture_core.specs.Captured.{captured_events, captured_packets}
use Rattle.capture_core.specs.PacketReader.{AnswersPacket, GivesPacket, KeepsPacket, PacketAnswer, PacketState, TellsPacket, at_start, events_behind}
use Rattle.capture_core.specs.Packets.{Packet, events_of, stopped}
use Rattle.capture_core.proofs.PacketsTaken.{TellsSome, TookPackets, behind_start, taken_before, taken_more, taken_none, taken_then}
use Rattle.capture_core.proofs.StopsTold.{capture_means}
use Rattle.engine_core.specs.CaptureRun.{KeepsFrame, KeepsInterface, TellsNoMore, capture_input}
use Rattle.engine_core.specs.Input.{IsRead, TellsNext}
use Rattle.engine_core.proofs.InputRuns.{GivenSo}

-- the octets of an answer were given
pub gives_packet : {A : Type 0} (answer : PacketAnswer A) (old new : Option (List ℕ)) (given : List ℕ) → GivesPacket answer old new given → GivesOctets old new given
gives_packet (Ok (Some e)) old new given g = Gives-from_Consumes old new given g
gives_packet (Ok None) old new given g = g
gives_packet (Err f) old new given g = g

-- what an answer tells first of a capture
first_told : {A : Type 0} (answer : PacketAnswer A) (onward rest : Numbered (Event A) CaptureFault) → TellsPacket answer onward rest → TellsNext answer onward
first_told (Ok (Some e)) onward rest h = (rest, h)
first_told (Ok None) onward rest h = h.0
first_told (Err (Some f)) onward rest h = h.0
first_told (Err None) onward rest h = tt

-- a capture that goes on is not given up
gives_up : {A : Type 0} (y : InputEnd) (octets : List ℕ) (items : List (ℕ × Event A)) → captured_events {A = A} y octets ≡ put_items items (events_of (stopped unfinished)) → y ≡ Open
gives_up {A} y octets items e = let stops : (captured_packets y octets).stop ≡ unfinished = ap (λ (l : Numbered (Event A) CaptureFault). l.stop) e in rw stops at (capture_means y octets)

not_given_up : {A : Type 0} (z : InputEnd) (octets : List ℕ) (items : List (ℕ × Event A)) → WhateverComes z (λ y more. captured_events {A = A} y (octets ++ more) ≡ put_items items (events_of (stopped unfinished))) → ⊥
not_given_up Open octets items h = let e = gives_up End _ items (h [] End tt) in cc
not_given_up End octets items h = let e = gives_up End _ items (h [] End (refl, refl)) in cc
not_given_up Failed octets items h = let e = gives_up Failed _ items (h [] Failed (refl, refl)) in cc

module _ {A : Type 0} where
  -- the events that it gave
  pub gave_taken : (a b : PacketState) (items : List (ℕ × Event A)) → Gave AnswersPacket a items b → TookPackets a items b
  unfolding Gave
  gave_taken a b [] same = subst (λ s. TookPackets {A = A} a [] s) same (taken_none {A = A} a)
  gave_taken a b (e ∷ es) (next, q, g) = taken_more a next b e es q (gave_taken next b es g)

  module _ (a b c : PacketState) (fresh : a.stage ≡ at_start) (items : List (ℕ × Event A)) (p : TookPackets a items b) (answer : PacketAnswer A) (q : AnswersPacket b answer c) where
    -- whatever comes, the capture tells the events and then what the reader told before the answer
    before_answer : WhateverComes c.ending (λ y more. captured_events {A = A} y ((p.given ++ q.given) ++ more) ≡ put_items items (events_behind b y (q.given ++ more)))
    before_answer more y f = sym (behind_start a y ((p.given ++ q.given) ++ more) fresh) ∙ taken_before a b c items answer p q more y f

    -- what the reader has to keep, the capture has
    keeps : answer ≡ Err None → KeepsFrame c.ending (p.given ++ q.given) items ⊎ KeepsInterface c.ending (p.given ++ q.given) items
    keeps none = elim (subst (λ (o : PacketAnswer A). KeepsPacket o b q.given c.ending) none q.kept) [
      | inl frame ↦
          let some = frame.1 in
          inl (record {
            next = λ more y f. (events_behind b y (q.given ++ more), before_answer more y f, frame.0 more y f);
            can_come = (some.0, some.1, some.2, (events_behind b some.1 (q.given ++ some.0), before_answer some.0 some.1 some.2, some.3));
          })
      | inr (inl i) ↦ inr (record {
        front = p.given ++ i.front;
        block = i.block;
        parts = ap (λ (l : List ℕ). p.given ++ l) i.parts ∙ sym (append_assoc p.given i.front i.block);
        settled = i.settled;
        packets = i.packets;
        most = i.most;
        behind = λ more y f. before_answer more y f ∙ ap (λ (l : Numbered Packet CaptureFault). put_items items (events_of l)) (i.behind more y f);
        interface = i.interface;
        is_interface = i.is_interface;
      })
      | inr (inr gone) ↦ absurd (not_given_up c.ending (p.given ++ q.given) items (λ more y f. before_answer more y f ∙ ap (λ (l : Numbered Packet CaptureFault). put_items items (events_of l)) (gone more y f)))
    ]

  -- some of the events are told of a capture from its start on
  no_more : (a : PacketState) (items : List (ℕ × Event A)) (octets : List ℕ) → a.stage ≡ at_start → TellsSome items (events_behind {A = A} a Open octets) → TellsNoMore items octets
  no_more a items octets fresh t = record { told = t.0; others = t.1; parts = t.2; tells = sym (behind_start a Open octets fresh) ∙ t.3 }

  -- what it gave and then answered is read of the capture
  pub capture_read : (a b c : PacketState) (items : List (ℕ × Event A)) (answer : PacketAnswer A) → a.stage ≡ at_start → a.ending ≡ Open → Gave AnswersPacket a items b → AnswersPacket b answer c →
      GivenSo a.left c.left (λ given. IsRead capture_input c.ending given items answer)
  unfolding taken_then
  capture_read a b c items answer fresh is gave q =
      let p = gave_taken a b items gave in
      let ran = taken_then a b c items answer p q in
      let reads = ran.reads [] c.ending (CanFollow-none c.ending) in (
        ran.given,
        gives_packet answer _ _ ran.given ran.took,
        record {
          onward = reads.0;
          says = sym (behind_start a c.ending ran.given fresh) ∙ ap (events_behind a c.ending) (sym (append-nil ran.given)) ∙ reads.1;
          tells = first_told answer reads.0 _ reads.2;
          stands = record { asked = λ front rest parts more. no_more a items front fresh (ran.asked front rest parts (subst (λ z. (rest ≢ []) ⊎ (c.ending ≢ z)) (sym is) more)); keeps = keeps a b c fresh items p answer q };
        },
      )

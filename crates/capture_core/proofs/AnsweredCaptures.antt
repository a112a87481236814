-- What a reader of packets answers of a whole capture, one answer behind another.
use Rattle.std.proofs.Common.{◌≡◌, ℕ, List, [], ◌∷◌, ◌++◌, ap, sym, ◌∙◌, subst, append_assoc}
use Rattle.std.proofs.lemmas.List.{append-nil}
use Rattle.list_core.specs.Items.{put_items}
use Rattle.list_core.specs.Lines.{CanFollow, Stop, faulty, finished}
use Rattle.list_core.specs.declared.device.InputEnd.{InputEnd}
use Rattle.list_core.specs.declared.event.Event.{Event}
use Rattle.list_core.proofs.Readers.{CanFollow-given}
use Rattle.capture_core.specs.Packets.{Numbered, events_of, put_numbered, stopped}
use Rattle.capture_core.specs.Captured.{captured_packets}
use Rattle.capture_core.specs.PacketReader.{PacketState, Stage, at_start, events_behind, packets_from}
use Rattle.capture_core.specs.Laws.{AnsweredEndIsWhole, AnsweredFaultIsFirst, AnswersEvents, events_in}
use Rattle.capture_core.specs.declared.capture_fault.CaptureFault.{CaptureFault}
use Rattle.capture_core.proofs.SpelledPackets.{packets_spelled}
use Rattle.capture_core.proofs.FaultyCaptures.{read_fault_first}

module _ {A : Type 0} where
  -- what follows the octets of events follows what stood before them
  follows_events : (es : List (ℕ × Event A)) (old mid : PacketState) (given more : List ℕ) (z : InputEnd) → AnswersEvents old es given mid → CanFollow mid.ending more z → CanFollow old.ending (given ++ more) z
  follows_events [] old mid given more z (e, same) c =
      subst (λ (s : PacketState). CanFollow s.ending (given ++ more) z) (sym same) (subst (λ (g : List ℕ). CanFollow mid.ending (g ++ more) z) (sym e) c)
  follows_events (e ∷ es) old mid given more z (s, a, rest, split, others) c =
      let behind = CanFollow-given old.ending s.ending a.given (rest ++ more) z a.only_open (follows_events es s mid rest more z others c) in
      subst (λ (g : List ℕ). CanFollow old.ending g z) (sym (ap (λ (g : List ℕ). g ++ more) split ∙ append_assoc a.given rest more)) behind

  -- events that were answered come first, whatever follows
  events_first : (es : List (ℕ × Event A)) (old mid : PacketState) (given more : List ℕ) (z : InputEnd) → AnswersEvents old es given mid → CanFollow mid.ending more z →
      events_behind {A = A} old z (given ++ more) ≡ put_items es (events_behind mid z more)
  events_first [] old mid given more z (e, same) c = ap (λ (g : List ℕ). events_behind {A = A} old z (g ++ more)) e ∙ ap (λ (s : PacketState). events_behind {A = A} s z more) same
  events_first (e ∷ es) old mid given more z (s, a, rest, split, others) c =
      ap (events_behind {A = A} old z) (ap (λ (g : List ℕ). g ++ more) split ∙ append_assoc a.given rest more)
      ∙ a.reads (rest ++ more) z (follows_events es s mid rest more z others c)
      ∙ ap (put_numbered e) (events_first es s mid rest more z others c)

  -- events of a whole capture, and how it then stops
  all_events : (es : List (ℕ × Event A)) (old mid : PacketState) (given more : List ℕ) (z : InputEnd) (stop : Stop CaptureFault) → old.stage ≡ at_start → AnswersEvents old es given mid → CanFollow mid.ending more z →
      events_behind {A = A} mid z more ≡ stopped stop → ((captured_packets z (given ++ more)).stop ≡ stop) × (es ≡ events_in (captured_packets z (given ++ more)).items)
  all_events es old mid given more z stop start before c e =
      let o = given ++ more in
      let all : events_of {A = A} (captured_packets z o) ≡ put_items es (stopped stop) =
      sym (ap (λ (k : Stage). events_of {A = A} (packets_from k old.answered old.most z o)) start) ∙ events_first es old mid given more z before c ∙ ap (put_items es) e in
      (ap (λ (l : Numbered (Event A)). l.stop) all, sym (ap (λ (l : Numbered (Event A)). l.items) all ∙ append-nil es))

  pub answered_fault_first : AnsweredFaultIsFirst A
  answered_fault_first old mid new es given f start before a more z c =
      let o = given ++ (a.given ++ more) in
      let t = all_events es old mid given (a.given ++ more) z (faulty f) start before (CanFollow-given mid.ending new.ending a.given more z a.only_open c) (a.reads more z c).0 in
      ((captured_packets z o).items, read_fault_first z f o t.0, t.1)

  pub answered_end_whole : AnsweredEndIsWhole A
  answered_end_whole old mid new es given start before a more z c =
      let o = given ++ (a.given ++ more) in
      let t = all_events es old mid given (a.given ++ more) z finished start before (CanFollow-given mid.ending new.ending a.given more z a.only_open c) (a.reads more z c).0 in
      let s = packets_spelled z o t.0 in
      (s.0, (captured_packets z o, s.1, t.1))

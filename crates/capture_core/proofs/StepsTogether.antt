-- Several steps of a reader of packets, and then an answer.
use Rattle.std.proofs.Common.{◌≡◌, ◌≢◌, ◌⊎◌, ℕ, inl, inr, List, [], ◌∷◌, ◌++◌, Option, Some, None, Ok, Err, ap, sym, ◌∙◌, refl, subst, append_assoc}
use Rattle.std.proofs.lemmas.List.{append-nil}
use Rattle.std.specs.Io.KnownBytes.{Consumes}
use Rattle.list_core.specs.declared.device.InputEnd.{InputEnd}
use Rattle.list_core.specs.declared.device.InputEnd.TheVariants.{Open, End, Failed}
use Rattle.list_core.specs.declared.event.Event.{Event}
use Rattle.list_core.specs.Device.{OnlyOpen}
use Rattle.list_core.specs.Lines.{CanFollow}
use Rattle.list_core.proofs.Devices.{Consumes-append, Consumes-none, Gives-append}
use Rattle.list_core.proofs.Readers.{CanFollow-given, OnlyOpen-append, OnlyOpen-none}
use Rattle.tally_core.specs.Tally.{Tally}
use Rattle.capture_core.specs.Packets.{Numbered, events_of, Packet}
use Rattle.capture_core.specs.Asked.{OnlyWhile}
use Rattle.capture_core.specs.PacketReader.{AnswersPacket, CountsPacket, GivesPacket, PacketAnswer, PacketState, TellsPacket, packets_behind, KeepsPacket, NextIsFrame, TellsFrameNext}
use Rattle.capture_core.specs.computed.Steps.{PassesOver}
use Rattle.capture_core.proofs.Fronts.{asked_none, front_cases}

pub gives_after : {A : Type 0} (answer : PacketAnswer A) (a b c : Option (List ℕ)) (xs ys : List ℕ) → Consumes a b xs → GivesPacket answer b c ys → GivesPacket answer a c (xs ++ ys)
gives_after (Ok (Some e)) a b c xs ys p q = Consumes-append a b c xs ys p q
gives_after (Ok None) a b c xs ys p q = Gives-append a b c xs ys p q
gives_after (Err f) a b c xs ys p q = Gives-append a b c xs ys p q

tells_from : {A : Type 0} (answer : PacketAnswer A) (a b c : Numbered (Event A)) → a ≡ b → TellsPacket answer b c → TellsPacket answer a c
tells_from answer a b c e t = rw e t

counts_from : {A : Type 0} (answer : PacketAnswer A) (a b c : Numbered Packet) (s t u : Tally) → a ≡ b → t ≡ s → CountsPacket answer b c t u → CountsPacket answer a c s u
counts_from answer a b c s t u e k h = rw (e, sym k) h

-- nothing was given behind what was given
end_behind : (front rest : List ℕ) → [] ≡ front ++ rest → (front ≡ []) × (rest ≡ [])
end_behind [] rest e = (refl, sym e)
end_behind (x ∷ front) rest e = absurd (cc)

-- what was asked for, where nothing follows the first part
asked_closed : (P : List ℕ → Type 0) (part others front rest more : List ℕ) (x y w : InputEnd) → (y ≡ Open → ⊥) → OnlyOpen y others w → OnlyWhile P part x y → front ≡ part ++ more → others ≡ more ++ rest → (rest ≢ []) ⊎ (w ≢ x) → P front
asked_closed P part others front rest more x y w shut (inl o) f p q c = absurd (shut o)
asked_closed P part others front rest more x y w shut (inr o) f p q c =
    let none = end_behind more rest (sym o.0 ∙ q) in
    let all : front ≡ part = p ∙ ap (λ l. part ++ l) none.0 ∙ append-nil part in
    elim c [
      | inl n ↦ absurd (n none.1)
      | inr n ↦ subst P (sym all) (f part [] (sym (append-nil part)) (inr (λ e. n (o.1 ∙ e))))
    ]

-- an open source was open before it gave octets
was_open : (x : InputEnd) (part : List ℕ) → OnlyOpen x part Open → x ≡ Open
was_open x part (inl o) = o
was_open x part (inr o) = sym o.1

end_no_open : End ≡ Open → ⊥
end_no_open e = cc

failed_no_open : Failed ≡ Open → ⊥
failed_no_open e = cc

asked_behind : (P Q : List ℕ → Type 0) (part others front rest more : List ℕ) (x y w : InputEnd) → OnlyOpen x part y → OnlyOpen y others w → OnlyWhile P part x y → OnlyWhile Q others y w →
    ((f : List ℕ) → CanFollow y f Open → Q f → P (part ++ f)) → front ≡ part ++ more → others ≡ more ++ rest → (rest ≢ []) ⊎ (w ≢ x) → P front
asked_behind P Q part others front rest more x Open w o u f g k p q c =
    subst P (sym p) (k more tt (g more rest q (elim c [
      | inl n ↦ inl n
      | inr n ↦ inr (λ e. n (e ∙ sym (was_open x part o)))
    ])))
asked_behind P Q part others front rest more x End w o u f g k p q c = asked_closed P part others front rest more x End w end_no_open u f p q c
asked_behind P Q part others front rest more x Failed w o u f g k p q c = asked_closed P part others front rest more x Failed w failed_no_open u f p q c

-- what was asked for twice
pub asked_after : (P Q : List ℕ → Type 0) (part others : List ℕ) (x y w : InputEnd) → OnlyOpen x part y → OnlyOpen y others w → OnlyWhile P part x y → OnlyWhile Q others y w →
    ((f : List ℕ) → CanFollow y f Open → Q f → P (part ++ f)) → OnlyWhile P (part ++ others) x w
asked_after P Q part others x y w o u f g k front rest e c =
    elim (front_cases part others front rest e) [
      | inl h ↦ f front h.0 h.1 (inl h.2)
      | inr h ↦ asked_behind P Q part others front rest h.0 x y w o u f g k h.1 h.2 c
    ]

-- no step
pub passes_none : (s : PacketState) → PassesOver s s
passes_none s = record {
  given = [];
  took = Consumes-none s.left;
  only_open = OnlyOpen-none s.ending;
  asked = asked_none _ s.ending;
  reads = λ more y c. refl;
  counted = refl;
}

-- one step behind others
pub passes_passes : (a b c : PacketState) → PassesOver a b → PassesOver b c → PassesOver a c
passes_passes a b c p q = record {
  given = p.given ++ q.given;
  took = Consumes-append a.left b.left c.left p.given q.given p.took q.took;
  only_open = OnlyOpen-append a.ending b.ending c.ending p.given q.given p.only_open q.only_open;
  asked = asked_after _ _ p.given q.given a.ending b.ending c.ending p.only_open q.only_open p.asked q.asked (λ f h e. p.reads f Open h ∙ e);
  reads = λ more y f. ap (packets_behind a y) (append_assoc p.given q.given more) ∙ p.reads (q.given ++ more) y (CanFollow-given b.ending c.ending q.given more y q.only_open f) ∙ q.reads more y f;
  counted = q.counted ∙ p.counted;
}

-- what is kept behind steps
kept_behind : {A : Type 0} (a b c : PacketState) (answer : PacketAnswer A) (p : PassesOver a b) (given : List ℕ) → OnlyOpen b.ending given c.ending → KeepsPacket answer b given c.ending → KeepsPacket answer a (p.given ++ given) c.ending
kept_behind a b c (Ok o) p given open_only k = tt
kept_behind a b c (Err (Some f)) p given open_only k = tt
kept_behind {A} a b c (Err None) p given open_only k =
    let on = λ (more : List ℕ) (y : InputEnd) (f : CanFollow c.ending more y). ap (packets_behind a y) (append_assoc p.given given more) ∙ p.reads (given ++ more) y (CanFollow-given b.ending c.ending given more y open_only f) in
    elim k [
      | inl frame ↦
          let some = frame.1 in
          inl (
            λ more y f. subst (λ (l : Numbered Packet). NextIsFrame (events_of {A = A} l)) (sym (on more y f)) (frame.0 more y f),
            (some.0, some.1, some.2, subst (λ (l : Numbered Packet). TellsFrameNext (events_of {A = A} l)) (sym (on some.0 some.1 some.2)) some.3),
          )
      | inr (inl i) ↦ inr (inl (record {
        front = p.given ++ i.front;
        block = i.block;
        parts = ap (λ (l : List ℕ). p.given ++ l) i.parts ∙ sym (append_assoc p.given i.front i.block);
        settled = i.settled;
        packets = i.packets;
        most = i.most;
        behind = λ more y f. on more y f ∙ i.behind more y f;
        interface = i.interface;
        is_interface = i.is_interface;
      }))
      | inr (inr none) ↦ inr (inr (λ more y f. on more y f ∙ none more y f))
    ]

-- an answer behind steps
pub passes_answers : {A : Type 0} (a b c : PacketState) (answer : PacketAnswer A) → PassesOver a b → AnswersPacket b answer c → AnswersPacket a answer c
passes_answers a b c answer p q = record {
  given = p.given ++ q.given;
  took = gives_after answer a.left b.left c.left p.given q.given p.took q.took;
  only_open = OnlyOpen-append a.ending b.ending c.ending p.given q.given p.only_open q.only_open;
  asked = asked_after _ _ p.given q.given a.ending b.ending c.ending p.only_open q.only_open (λ front rest e c. ap events_of (p.asked front rest e c)) q.asked (λ f h e. ap events_of (p.reads f Open h) ∙ e);
  kept = kept_behind a b c answer p q.given q.only_open q.kept;
  reads = λ more y f. tells_from answer _ _ _
      (ap events_of (ap (packets_behind a y) (append_assoc p.given q.given more) ∙ p.reads (q.given ++ more) y (CanFollow-given b.ending c.ending q.given more y q.only_open f)))
      (q.reads more y f);
  counted = λ more y f. counts_from answer _ _ _ _ _ _ (ap (packets_behind a y) (append_assoc p.given q.given more) ∙ p.reads (q.given ++ more) y (CanFollow-given b.ending c.ending q.given more y q.only_open f)) p.counted
      (q.counted more y f);
}

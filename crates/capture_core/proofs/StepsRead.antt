-- What one thing that was read says of a capture.
use Rattle.std.proofs.Common.{◌≡◌, ℕ, ◌<◌, List, [], ◌∷◌, ◌++◌, length, drop, Option, Some, None, Ok, Err, inl, inr, ap, subst, sym, ◌∙◌, refl, arith}
use Rattle.std.proofs.Math.Seq.{drop-append_seam}
use Rattle.list_core.specs.declared.device.InputEnd.{InputEnd}
use Rattle.list_core.specs.declared.device.InputEnd.TheVariants.{Open}
use Rattle.list_core.specs.Device.{GivesOctets, OnlyOpen}
use Rattle.list_core.specs.declared.event.Event.{Event}
use Rattle.list_core.specs.Lines.{CanFollow, Stop, finished, unfinished, faulty}
use Rattle.list_core.proofs.Devices.{Gives-from_Consumes}
use Rattle.tally_core.specs.Tally.{count_all}
use Rattle.capture_core.specs.Packets.{Numbered, Packet, event_of, events_of, other_link, put_numbered, stopped}
use Rattle.capture_core.specs.Asked.{OnlyWhile}
use Rattle.capture_core.specs.PacketReader.{AnswersPacket, BeginsWithFrame, FirstIsFrame, KeepsPacket, NextIsFrame, PacketState, TellsFrameNext, over, events_behind, packets_behind, packets_from}
use Rattle.capture_core.specs.computed.OneRead.{Front, GivesFront, IsKept, IsKeptWhole, KeepsFront, ReadsFront, ReadsToKeep, Told}
use Rattle.capture_core.specs.computed.Steps.{PassesOver}
use Rattle.capture_core.specs.declared.capture_fault.CaptureFault.{CaptureFault}

-- what stands at the front, and what others say behind it
unfoldable pub spread : {X : Type 0} → Front X → (X → ℕ → Numbered Packet) → Numbered Packet
spread (Err stop) others = stopped stop
spread (Ok x) others = others x.0 x.1

gave : {X : Type 0} (told : Told X) (a b : Option (List ℕ)) (xs : List ℕ) → GivesFront told a b xs → GivesOctets a b xs
gave (Ok x) a b xs p = Gives-from_Consumes a b xs p
gave (Err why) a b xs p = p

-- events of which the first is a frame begin with one
first_begins : {A : Type 0} (es : List (ℕ × Event A)) (stop : Stop CaptureFault) → FirstIsFrame es → BeginsWithFrame es stop
first_begins [] stop f = absurd f
first_begins (e ∷ es) stop f = f

-- a source that gave octets was open
opened : (z w : InputEnd) (given : List ℕ) → OnlyOpen z given w → 0 < length given → z ≡ Open
opened z w given (inl o) some = o
opened z w [] (inr o) some = absurd (omega (arith, some))
opened z w (x ∷ given) (inr o) some = absurd (cc)

module _ {X : Type 0} (F : InputEnd → List ℕ → Front X) (others : X → InputEnd → List ℕ → Numbered Packet) (old : PacketState)
    (is : (y : InputEnd) (octets : List ℕ) → packets_from old.stage old.answered old.most y octets ≡ spread (F y octets) (λ x size. others x y (drop size octets))) where
  -- a front that leaves all open
  open_packets : (front : List ℕ) → F Open front ≡ Err unfinished → packets_behind old Open front ≡ stopped unfinished
  unfolding spread
  open_packets front e = is Open front ∙ ap (λ (f : Front X). spread f (λ x size. others x Open (drop size front))) e

  asked_so : {A : Type 0} (told : Told X) (left : Option (List ℕ)) (w : InputEnd) (r : ReadsFront F [] old.left old.ending told left w) → OnlyWhile (λ front. events_behind {A = A} old Open front ≡ stopped unfinished) r.given old.ending w
  asked_so told left w r front rest e c = ap events_of (open_packets front (r.asked front rest e c))

  -- a stop
  stop_told : {A : Type 0} (given more : List ℕ) (y : InputEnd) (stop : Stop CaptureFault) → F y (given ++ more) ≡ Err stop → events_behind {A = A} old y (given ++ more) ≡ stopped stop
  unfolding spread
  stop_told given more y stop e = ap events_of (is y (given ++ more) ∙ ap (λ (f : Front X). spread f (λ x size. others x y (drop size (given ++ more)))) e)

  -- a thing, and the others behind it
  thing_told : (given more : List ℕ) (y : InputEnd) (x : X) → F y (given ++ more) ≡ Ok (x, length given) → packets_from old.stage old.answered old.most y (given ++ more) ≡ others x y more
  unfolding spread
  thing_told given more y x e =
      is y (given ++ more) ∙ ap (λ (f : Front X). spread f (λ x size. others x y (drop size (given ++ more)))) e
      ∙ ap (others x y) (drop-append_seam given more)

  -- what is to be kept
  module _ (A : Type 0) (K : X → Type 0) (frames : (x : X) → K x → (y : InputEnd) (o : List ℕ) → TellsFrameNext (events_of {A = A} (others x y o))) where
    spread_kept : (f : Front X) (y : InputEnd) (o : List ℕ) → IsKept K f → NextIsFrame (events_of {A = A} (spread f (λ x size. others x y (drop size o))))
    unfolding spread
    spread_kept (Ok x) y o k = first_begins _ _ (frames x.0 k y (drop x.1 o))
    spread_kept (Err stop) y o k = k

    kept_told : (given more : List ℕ) (y : InputEnd) → IsKept K (F y (given ++ more)) → NextIsFrame (events_behind {A = A} old y (given ++ more))
    kept_told given more y k = subst (λ (l : Numbered Packet). NextIsFrame (events_of {A = A} l)) (sym (is y (given ++ more))) (spread_kept (F y (given ++ more)) y (given ++ more) k)

    spread_whole : (f : Front X) (y : InputEnd) (o : List ℕ) → IsKeptWhole K f → TellsFrameNext (events_of {A = A} (spread f (λ x size. others x y (drop size o))))
    unfolding spread
    spread_whole (Ok x) y o k = frames x.0 k y (drop x.1 o)
    spread_whole (Err stop) y o k = absurd k

    whole_told : (given more : List ℕ) (y : InputEnd) → IsKeptWhole K (F y (given ++ more)) → TellsFrameNext (events_behind {A = A} old y (given ++ more))
    whole_told given more y k = subst (λ (l : Numbered Packet). TellsFrameNext (events_of {A = A} l)) (sym (is y (given ++ more))) (spread_whole (F y (given ++ more)) y (given ++ more) k)

  module _ (new : PacketState) where
    -- the capture has ended
    pub step_ends : {A : Type 0} → ReadsFront F [] old.left old.ending (Err (Some finished)) new.left new.ending → new.stage ≡ over finished → new.other_links ≡ old.other_links → AnswersPacket {A = A} old (Ok None) new
    step_ends r s k = record {
      given = r.given;
      took = r.took;
      only_open = r.only_open;
      asked = asked_so (Err (Some finished)) new.left new.ending r;
      kept = tt;
      reads = λ more y c. let e = stop_told r.given more y finished (r.stands more y c) in (e, rw s (sym e));
      counted = λ more y c. k;
    }

    -- the capture has a fault
    pub step_fails : {A : Type 0} (f : CaptureFault) → ReadsFront F [] old.left old.ending (Err (Some (faulty f))) new.left new.ending → new.stage ≡ over (faulty f) → new.other_links ≡ old.other_links → AnswersPacket {A = A} old (Err (Some f)) new
    step_fails f r s k = record {
      given = r.given;
      took = r.took;
      only_open = r.only_open;
      asked = asked_so (Err (Some (faulty f))) new.left new.ending r;
      kept = tt;
      reads = λ more y c. let e = stop_told r.given more y (faulty f) (r.stands more y c) in (e, rw s (sym e));
      counted = λ more y c. k;
    }

    -- memory was wanted
    pub step_wants : {A : Type 0} (told : Told X) (r : ReadsFront F [] old.left old.ending told new.left new.ending) → KeepsPacket {A = A} (Err None) old r.given new.ending → new.stage ≡ over unfinished → new.other_links ≡ old.other_links → AnswersPacket {A = A} old (Err None) new
    step_wants told r k s t = record {
      given = r.given;
      took = gave told old.left new.left r.given r.took;
      only_open = r.only_open;
      asked = asked_so told new.left new.ending r;
      kept = k;
      reads = λ more y c. rw s refl;
      counted = λ more y c. t;
    }

    -- it was wanted to keep what stands at the front
    pub step_keeps : {A : Type 0} (K : X → Type 0) → ((x : X) → K x → (y : InputEnd) (o : List ℕ) → TellsFrameNext (events_of {A = A} (others x y o))) → (told : Told X) → told ≡ Err None →
        ReadsToKeep K F [] old.left old.ending told new.left new.ending → new.stage ≡ over unfinished → new.other_links ≡ old.other_links → AnswersPacket {A = A} old (Err None) new
    step_keeps {A = A} K frames told none r s t =
        let begun = subst (λ (t : Told X). KeepsFront K F r.read.given old.ending t new.ending) none r.keeps in
        let still : new.ending ≡ Open = begun.stays ∙ opened old.ending new.ending r.read.given r.read.only_open begun.some in
        let follows = subst (λ (e : InputEnd). CanFollow e begun.more Open) (sym still) tt in
        step_wants told r.read (inl (λ more y c. kept_told A K frames r.read.given more y (begun.whatever more y c), (begun.more, Open, follows, whole_told A K frames r.read.given begun.more Open begun.whole))) s t

    -- a packet was read
    pub step_gives : {A : Type 0} (x : X) (n : ℕ) (p : Packet) → ReadsFront F [] old.left old.ending (Ok x) new.left new.ending →
        ((y : InputEnd) (more : List ℕ) → others x y more ≡ put_numbered (n, p) (packets_from new.stage new.answered new.most y more)) → new.other_links ≡ count_all (other_link n p.link_type) old.other_links → AnswersPacket {A = A} old (Ok (Some (n, event_of p))) new
    step_gives x n p r s k = record {
      given = r.given;
      took = r.took;
      only_open = r.only_open;
      asked = asked_so (Ok x) new.left new.ending r;
      kept = tt;
      reads = λ more y c. ap events_of (thing_told r.given more y x (r.stands more y c) ∙ s y more);
      counted = λ more y c. (p, refl, thing_told r.given more y x (r.stands more y c) ∙ s y more, k);
    }

    -- what was read is no packet
    pub step_passes : (x : X) → ReadsFront F [] old.left old.ending (Ok x) new.left new.ending →
        ((y : InputEnd) (more : List ℕ) → others x y more ≡ packets_from new.stage new.answered new.most y more) → new.other_links ≡ old.other_links → PassesOver old new
    step_passes x r s k = record {
      given = r.given;
      took = r.took;
      only_open = r.only_open;
      asked = λ front rest e c. open_packets front (r.asked front rest e c);
      reads = λ more y c. thing_told r.given more y x (r.stands more y c) ∙ s y more;
      counted = k;
    }

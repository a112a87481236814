use Rattle.std.proofs.Common.{◌≡◌, ◌≤◌, ◌++◌, ◌∙◌, length, take, ap, subst, sym, refl, arith, append_assoc}
use Rattle.std.proofs.lemmas.List.{length-append, take_at}
use Rattle.std.specs.Io.KnownBytes.{Consumes}
use Rattle.list_core.specs.declared.event.EventKind.{EventKind}
use Rattle.list_core.specs.declared.event.EventKind.TheVariants.{Frame}
use Rattle.list_core.proofs.Devices.{taken_at_hand}
use Rattle.capture_core.specs.computed.AtHand.{packet_ahead}
use Rattle.capture_core.proofs.PacketsRead.{frame_is}
use Rattle.capture_core.proofs.at_hand.take_frame.Goals as goal

pub returns : goal.returns
returns g c =
    let frame = c.in-Some.frame in
    let ahead = c.at_hand.result.now in
    let (head, rest, others, text, size, some, block) = c.in-Some.ensures in
    let all : length (head ++ rest) ≡ frame.total = simp length-append (sym size) in
    let front : take frame.total ahead ≡ head ++ rest = ap (take frame.total) (text ∙ sym (append_assoc head rest others)) ∙ take_at (head ++ rest) others frame.total all in
    let within : frame.total ≤ length ahead = rw text (simp length-append (omega (arith, size))) in
    let octets = c.from.ensures ∙ c.in-Some-copied.ensures in
    let took = taken_at_hand _ _ ahead frame.total c.at_hand.ensures within (c.take_at_hand.ensures.taken c.if-not-take_at_hand.false) in
    record {
      taken = (
        head,
        rest,
        packet_ahead frame,
        ap (λ (k : EventKind g.row.A.Denot). record { moment = frame.moment; kind = k }) (ap Frame octets ∙ frame_is 1 frame.octets.now refl some),
        refl,
        subst (λ l. Consumes (g.R.Source.left c.args.reader.now) (g.R.Source.left c.take_at_hand.new.self) l) front took,
        block,
      );
      kept = λ e. cc;
      ending = c.take_at_hand.ensures.ending;
    }

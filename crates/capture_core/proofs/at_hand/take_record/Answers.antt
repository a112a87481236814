use Rattle.std.proofs.Common.{◌≡◌, ◌+◌, ◌-◌, ◌≤◌, ◌++◌, ◌∙◌, length, take, drop, ap, subst, sym, refl, arith, append_assoc}
use Rattle.std.proofs.lemmas.List.{length-append, length-take-le, take_at, take-append-drop}
use Rattle.std.specs.Io.KnownBytes.{Consumes}
use Rattle.list_core.specs.declared.event.EventKind.{EventKind}
use Rattle.list_core.specs.declared.event.EventKind.TheVariants.{Frame}
use Rattle.list_core.proofs.Devices.{taken_at_hand}
use Rattle.capture_core.specs.Packets.{event_of}
use Rattle.capture_core.proofs.PacketsRead.{frame_is}
use Rattle.capture_core.proofs.at_hand.take_record.Goals as goal

pub returns : goal.returns
returns g c =
    let ahead = c.at_hand.result.now in
    let head = c.in-Some.head.now in
    let behind = c.in-Some.behind.now in
    let octets = c.in-Some-get.octets.now in
    let size = c.long_at-size.result in
    let first = c.in-Some.ensures.cases in
    let got = c.in-Some-get.ensures.lookup.0 in
    let whole : size - 0 ≡ size = omega arith in
    let are : octets ≡ take size behind = rw whole at got.2 in
    let sixteen : length head ≡ 16 = ap length first.0 ∙ length-take-le 16 ahead (omega (arith, first.2)) in
    let all : length octets ≡ size = ap length are ∙ length-take-le size behind got.1 in
    let text : ahead ≡ (head ++ octets) ++ drop size behind =
    sym (append_assoc head octets (drop size behind) ∙ ap (λ l. head ++ (l ++ drop size behind)) are ∙ ap (λ l. head ++ l) (take-append-drop size behind) ∙ ap (λ l. l ++ behind) first.0 ∙ ap (λ l. take 16 ahead ++ l) first.1 ∙ take-append-drop 16 ahead) in
    let total : length (head ++ octets) ≡ 16 + size = simp length-append (omega (arith, sixteen, all)) in
    let front : take (16 + size) ahead ≡ head ++ octets = ap (take (16 + size)) text ∙ take_at (head ++ octets) (drop size behind) (16 + size) total in
    let within : 16 + size ≤ length ahead = omega (arith, first.2, got.1) in
    let took = taken_at_hand _ _ ahead (16 + size) c.at_hand.ensures within (c.take_at_hand.ensures.taken c.if-not-take_at_hand.false) in
    let kind : Frame c.from.result ≡ _ = ap Frame (c.from.ensures ∙ c.in-Some-copied.ensures) ∙ frame_is {A = g.row.A.Denot} 1 octets refl (omega (arith, all, c.if-size-eq0.false)) in
    record {
      taken = (
        head,
        octets,
        sixteen,
        sym c.long_at-size.ensures ∙ sym all,
        omega (arith, all, c.if-size-eq0.false),
        omega (arith, all, c.if-size-gt-LONGEST_PACKET.false),
        ap (λ (k : EventKind g.row.A.Denot). record { moment = c.moment_in-moment.result; kind = k }) kind
            ∙ ap (λ m. event_of (record { moment = m; link_type = 1; octets = octets })) c.moment_in-moment.ensures.value,
        subst (λ l. Consumes (g.R.Source.left c.args.reader.now) (g.R.Source.left c.take_at_hand.new.self) l) front took,
      );
      kept = λ e. cc;
      ending = c.take_at_hand.ensures.ending;
    }

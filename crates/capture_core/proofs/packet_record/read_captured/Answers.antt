use Rattle.std.proofs.Common.{ℕ, ◌≤◌, ◌<◌, ◌∙◌, Ok, Err, ap, sym, refl, arith}
use Rattle.list_core.specs.declared.device.InputEnd.TheVariants.{Open}
use Rattle.list_core.specs.declared.device.InputEnd.{InputEnd}
use Rattle.capture_core.specs.Capture.{captured_size, cut, moment_in_head}
use Rattle.capture_core.specs.Packets.{Packet, event_of}
use Rattle.capture_core.proofs.FramesKept.{record_can_come, record_keeps}
use Rattle.capture_core.proofs.PacketsRead.{record_cut, record_long, record_whole}
use Rattle.capture_core.proofs.Fronts.{front_none, front_read, front_short, front_stops, front_wanted, front_whole}
use Rattle.capture_core.proofs.packet_record.read_captured.Goals as goal

pub returns-then-size-gt-LONGEST_PACKET : goal.returns-then-size-gt-LONGEST_PACKET
returns-then-size-gt-LONGEST_PACKET g c =
    let head = c.args.head.now in
    let far : 262144 < captured_size c.args.form head = omega (arith, c.long_at-size.ensures, c.if-size-gt-LONGEST_PACKET.true) in
    (_, refl, front_stops _ _ head _ _ _ _ _ (front_none _ head _ _ _ (λ y more. record_long c.args.form c.args.number head c.requires y more far ∙ ap Err (sym c.in_record.ensures))))

pub returns-in-Ok : goal.returns-in-Ok
returns-in-Ok g c =
    let head = c.args.head.now in
    let size = c.long_at-size.ensures in
    let short : captured_size c.args.form head ≤ 262144 = omega (arith, size, c.if-size-gt-LONGEST_PACKET.false) in
    let v = c.in-Ok.ensures in
    let p : Packet = record { moment = moment_in_head c.args.form head; link_type = 1; octets = v.0 } in (
      Ok p,
      (p, refl, v.5 ∙ ap (λ (m : ℕ). event_of (record { moment = m; link_type = 1; octets = v.0 })) c.moment_in.ensures.value, refl),
      front_read _ _ head _ _ _ _ p (front_whole _ _ head v.0 _ _ _ _ v.2 v.3 v.4 (λ front few. record_cut c.args.form c.args.number head c.requires Open front short (omega (arith, few, v.1, size)))
          (λ more y f. record_whole c.args.form c.args.number head c.requires y v.0 more short (v.1 ∙ size))),
    )

pub returns-in-Err-Short : goal.returns-in-Err-Short
returns-in-Err-Short g c =
    let head = c.args.head.now in
    let size = c.long_at-size.ensures in
    let short : captured_size c.args.form head ≤ 262144 = omega (arith, size, c.if-size-gt-LONGEST_PACKET.false) in
    let v = rw c.in-Err-Short.field-0-is at c.in-Err-Short.ensures in (
      _,
      refl,
      front_stops _ _ head _ _ _ _ _ (front_short _ head _ _ _ _ _ c.args.number _ v (λ y front few. record_cut c.args.form c.args.number head c.requires y front short (omega (arith, few, size)))
          (ap (λ (z : InputEnd). cut z c.args.number) (sym c.ending.ensures) ∙ c.cut_in.ensures.fault)),
    )

pub returns-in-Err-Memory : goal.returns-in-Err-Memory
returns-in-Err-Memory g c =
    let head = c.args.head.now in
    let size = c.long_at-size.ensures in
    let short : captured_size c.args.form head ≤ 262144 = omega (arith, size, c.if-size-gt-LONGEST_PACKET.false) in
    let v = rw c.in-Err-Memory.field-0-is at c.in-Err-Memory.ensures in (
      _,
      refl,
      front_wanted _ _ _ head _ _ _ _ _ v (omega (arith, c.requires)) (λ front few. record_cut c.args.form c.args.number head c.requires Open front short (omega (arith, few, size)))
          (λ given more y is. record_keeps c.args.form c.args.number head c.requires y given more short is.0 (omega (arith, size, is.1)))
          (λ given is. record_can_come c.args.form c.args.number head c.requires given short is.0 (omega (arith, size, is.1))),
    )

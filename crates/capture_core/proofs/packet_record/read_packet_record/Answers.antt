use Rattle.std.proofs.Common.{◌≡◌, ◌∙◌, [], length, take, ap, sym, refl, arith}
use Rattle.std.proofs.lemmas.List.{length-take-le}
use Rattle.list_core.specs.declared.device.InputEnd.{InputEnd}
use Rattle.capture_core.specs.Capture.{cut}
use Rattle.capture_core.proofs.PacketsRead.{record_end, record_open, record_some, record_told}
use Rattle.capture_core.proofs.Fronts.{front_cut, front_stops, keep_behind, keep_same}
use Rattle.capture_core.proofs.packet_record.read_packet_record.Goals as goal

pub returns-in-Short : goal.returns-in-Short
returns-in-Short g c =
    let f = c.in-Short.ensures in
    let size : length (take c.in-Short.field-0 c.fill.new.into) ≡ c.in-Short.field-0 = length-take-le c.in-Short.field-0 c.fill.new.into (omega (arith, f.0)) in (
      _,
      refl,
      front_stops _ _ [] _ _ _ _ _ (front_cut _ (take c.in-Short.field-0 c.fill.new.into) _ _ _ _ c.args.number _ f.1 f.2 f.3
          (λ front few. record_open c.args.form c.args.number front (omega (arith, few, size, f.0)))
          (λ y. record_end c.args.form y c.args.number (take c.in-Short.field-0 c.fill.new.into) (omega (arith, size, c.in-Short.field-0-test)) (omega (arith, size, f.0)))
          (ap (λ (z : InputEnd). cut z c.args.number) (sym c.ending-in-Short.ensures) ∙ c.cut_in.ensures.fault)),
    )

pub returns-in-Ok : goal.returns-in-Ok
returns-in-Ok g c =
    let f = c.in-Whole.ensures in
    let r = c.in-Ok.ensures in (
      r.0,
      r.1,
      keep_behind _ _ _ [] c.fill.new.into _ _ _ _ _ _ f.0 f.1 f.2 (λ front few. record_open c.args.form c.args.number front (omega (arith, few, c.fill.auto.into)))
          (keep_same _ _ _ _ c.fill.new.into _ _ _ _ (λ y rest. record_some c.args.form y c.args.number c.fill.new.into rest (omega (arith, c.fill.auto.into))) r.2),
    )

pub returns-in-Err : goal.returns-in-Err
returns-in-Err g c =
    let f = c.in-Whole.ensures in
    let r = c.in-Err.ensures in (
      r.0,
      record_told g.row.A.Denot c.in-Err.error r.0 r.1,
      keep_behind _ _ _ [] c.fill.new.into _ _ _ _ _ _ f.0 f.1 f.2 (λ front few. record_open c.args.form c.args.number front (omega (arith, few, c.fill.auto.into)))
          (keep_same _ _ _ _ c.fill.new.into _ _ _ _ (λ y rest. record_some c.args.form y c.args.number c.fill.new.into rest (omega (arith, c.fill.auto.into))) r.2),
    )

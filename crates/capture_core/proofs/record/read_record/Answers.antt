use Rattle.std.proofs.Common.{Err, ◌≡◌, length, take, refl, sym, arith}
use Rattle.std.proofs.lemmas.List.{length-take-le}
use Rattle.list_core.proofs.Devices.{Gives-from_Consumes}
use Rattle.capture_core.proofs.Records.{answered_many, answered_short, behind_head}
use Rattle.capture_core.proofs.record.read_record.Goals as goal

pub returns-then-before-ge-MOST_RECORDS-clause-record : goal.returns-then-before-ge-MOST_RECORDS-clause-record
returns-then-before-ge-MOST_RECORDS-clause-record g c = (
  Err c.in_record.result,
  refl,
  answered_many c.args.form _ c.fill.new.into _ _ _ _ c.args.before (omega arith) c.fill.auto.into (Gives-from_Consumes _ _ _ c.in-Whole.ensures.0) c.in-Whole.ensures.1 (sym c.in_record.ensures),
)

pub returns-in-Short-clause-record : goal.returns-in-Short-clause-record
returns-in-Short-clause-record g c =
    let filled = c.in-Short.ensures in
    let count : length (take c.in-Short.count c.fill.new.into) ≡ c.in-Short.count = length-take-le c.in-Short.count c.fill.new.into (omega (arith, filled.0)) in
    answered_short c.args.form c.answer_short.result _ (take c.in-Short.count c.fill.new.into) _ _ _ _ c.args.before filled.3 (omega (arith, filled.0, count, c.fill.auto.into)) filled.1 filled.2
    (rw (count, ← c.ending.ensures) c.answer_short.ensures.stop)

pub returns-else-before-ge-MOST_RECORDS-clause-record : goal.returns-else-before-ge-MOST_RECORDS-clause-record
returns-else-before-ge-MOST_RECORDS-clause-record g c =
    let r = c.read_octets.ensures.record in
    (r.0, r.1, behind_head c.args.form r.0 c.fill.new.into _ _ _ _ _ _ c.args.before c.in-Whole.ensures.0 c.in-Whole.ensures.1 r.2)

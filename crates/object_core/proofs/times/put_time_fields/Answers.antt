use Rattle.std.proofs.Common.{refl, ◌++◌}
use Rattle.text_core.proofs.Fronts.{then_appended}
use Rattle.text_core.proofs.PieceLemmas.{done, more, row}
use Rattle.text_core.specs.ValueText.{time_text}
use Rattle.object_core.specs.Objects.{date_value}
use Rattle.object_core.specs.Times.{moment_of, quality_value}
use Rattle.object_core.proofs.ObjectParts.{time_parts, time_written}
use Rattle.object_core.proofs.times.put_time_fields.Goals as goal

pub returns : goal.returns
returns g c =
    let t = c.args.time in
    let date = rw c.microseconds.ensures at c.in_ok-put_field_date.ensures in
    then_appended c.put_quality.result _ _ _ _ (quality_value t.quality) _ (
    row _ _ (time_parts c.args.octets.now (time_text t) (c.args.date.now ++ date_value (moment_of t)) c.args.quality.now) (
    more c.in_ok-extend_from_slice.ensures.items (
    more c.in_ok-push.ensures.items (
    more c.in_ok-put_utc.ensures (
    more c.in_ok-push-2.ensures.items (
    more date (
    more c.in_ok-extend_from_slice-2.ensures.items (
    done refl))))))))
    c.put_quality.ensures
    (time_written c.args.octets.now (time_text t) (c.args.date.now ++ date_value (moment_of t)) c.args.quality.now (quality_value t.quality))

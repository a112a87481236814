use Rattle.std.proofs.Common.{refl, [], ◌∷◌, List}
use Rattle.std.specs.Prelude.{codes}
use Rattle.std.specs.Fmt.{decimal}
use Rattle.text_core.proofs.Fronts.{appended}
use Rattle.text_core.proofs.PieceLemmas.{done, more}
use Rattle.object_core.specs.EventObject.{counted_name, fault_fields}
use Rattle.object_core.specs.Objects.{Field, date_value, in_quotes}
use Rattle.object_core.proofs.ObjectParts.{both, line_done}
use Rattle.object_core.proofs.event.put_fault_object.Goals as goal

pub returns : goal.returns
returns g c =
    let number : Field = (counted_name c.args.counted, decimal c.args.number) in
    let rest : List Field = (codes "microseconds", decimal c.args.moment) ∷ (codes "time", date_value c.args.moment) ∷ (codes "kind", in_quotes (codes "fault")) ∷ [] in
    let error = rw c.cause_name.ensures at c.in_ok-put_field_word.ensures in
    line_done c.extend_from_slice-2.result _ _ _ number rest (fault_fields c.args.fault) (
    more c.in_ok-put_event_head.ensures (
    more (both _ _ _ _ _ c.in_ok-extend_from_slice.ensures.items c.in_ok-put_decimal.ensures) (
    more error (
    done refl))))
    (appended c.extend_from_slice-2.result c.put_field_word.new.out.items _ (codes "}\n") (codes "}\n") c.extend_from_slice-2.ensures.items refl)

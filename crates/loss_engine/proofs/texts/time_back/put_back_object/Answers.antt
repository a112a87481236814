use Rattle.std.proofs.Common.{List, [], ◌∷◌, ◌++◌, refl}
use Rattle.std.specs.Prelude.{codes}
use Rattle.std.specs.Fmt.{decimal}
use Rattle.text_core.proofs.Fronts.{appended}
use Rattle.text_core.proofs.PieceLemmas.{then_text}
use Rattle.object_core.specs.EventObject.{counted_name, event_fields}
use Rattle.object_core.specs.Objects.{Field, date_value, in_quotes, opened}
use Rattle.object_core.specs.Onward.{onward}
use Rattle.object_core.proofs.ObjectLines.{closed}
use Rattle.loss_engine.proofs.texts.time_back.put_back_object.Goals as goal

pub returns : goal.returns
returns g c =
    let args = c.args in
    let number : Field = (counted_name args.counted, decimal args.number) in
    let others : List Field = (codes "microseconds", decimal args.moment) ∷ (codes "time", date_value args.moment) ∷ (codes "kind", in_quotes (codes "time-back")) ∷ [] in
    let head = opened (event_fields args.counted args.number args.moment (codes "time-back")) in
    let by : List Field = (codes "by", decimal args.by) ∷ [] in
    let begun = then_text _ head (onward by) (head ++ onward by) _ _ c.in_ok-put_event_head.ensures c.in_ok-put_numbers.ensures refl in
    closed c.extend_from_slice.result _ _ _ number others by begun (appended _ _ _ (codes "}\n") (codes "}\n") c.extend_from_slice.ensures.items refl)

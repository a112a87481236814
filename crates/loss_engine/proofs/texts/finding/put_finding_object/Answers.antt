use Rattle.std.proofs.Common.{List, [], ◌∷◌, ◌++◌, refl}
use Rattle.std.specs.Prelude.{codes}
use Rattle.std.specs.Fmt.{decimal}
use Rattle.text_core.proofs.Fronts.{appended, then_appended}
use Rattle.text_core.proofs.PieceLemmas.{then_text}
use Rattle.object_core.specs.EventObject.{counted_name, event_fields}
use Rattle.object_core.specs.Objects.{Field, date_value, in_quotes, opened}
use Rattle.object_core.specs.Onward.{onward}
use Rattle.object_core.proofs.ObjectLines.{ended}
use Rattle.loss_engine.specs.KeySaid.{key_said}
use Rattle.loss_engine.specs.LossLine.{finding_word}
use Rattle.loss_engine.specs.LossObject.{finding_fields, key_fields}
use Rattle.loss_engine.proofs.texts.finding.put_finding_object.Goals as goal

pub returns : goal.returns
returns g c =
    let args = c.args in
    let word = finding_word args.finding in
    let number : Field = (counted_name args.counted, decimal args.number) in
    let others : List Field = (codes "microseconds", decimal args.moment) ∷ (codes "time", date_value args.moment) ∷ (codes "kind", in_quotes word) ∷ [] in
    let head = opened (event_fields args.counted args.number args.moment word) in
    let key = key_fields (key_said args.key.now) in
    let fields = finding_fields args.finding in
    let begun = then_text _ head (onward key) (head ++ onward key) _ _ (rw c.word_of.ensures at c.in_ok-put_event_head.ensures) c.in_ok-put_key_fields.ensures refl in
    let end = then_appended c.extend_from_slice.result _ _ _ (onward fields) (codes "}\n") _ c.in_ok-put_finding_fields.ensures (appended _ _ _ (codes "}\n") (codes "}\n") c.extend_from_slice.ensures.items refl) refl in
    ended c.extend_from_slice.result _ _ _ number others key fields begun end

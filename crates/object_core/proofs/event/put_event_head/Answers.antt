use Rattle.std.proofs.Common.{◌≡◌, ◌∷◌, ◌++◌, [], ap, ◌∙◌, List, ℕ}
use Rattle.std.specs.Prelude.{codes}
use Rattle.std.specs.Fmt.{decimal}
use Rattle.text_core.proofs.Fronts.{then_appended}
use Rattle.text_core.proofs.PieceLemmas.{before}
use Rattle.object_core.specs.EventObject.{counted_name, event_fields}
use Rattle.object_core.specs.Objects.{Field, date_value, field_text, in_quotes, opened}
use Rattle.object_core.proofs.ObjectParts.{head_written}
use Rattle.object_core.proofs.event.put_event_head.Goals as goal

pub returns : goal.returns
returns g c =
    let number : Field = (counted_name c.args.counted, decimal c.args.number) in
    let front = (123 ∷ field_text number) ++ (codes ",\"microseconds\":" ++ (decimal c.args.moment ++ (codes ",\"time\":" ++ (date_value c.args.moment ++ [])))) in
    let text : c.prepend_number.new.text ≡ front =
    before (123 ∷ field_text number) c.prepend_number.ensures (before (codes ",\"microseconds\":") c.put-2.ensures.text (
    before (decimal c.args.moment) c.put_decimal.ensures.text (before (codes ",\"time\":") c.put.ensures.text (
    before (date_value c.args.moment) c.prepend_date.ensures.text c.new-text.ensures)))) in
    let appended : c.append_to.new.out.items ≡ c.args.out.now.items ++ front = c.in_ok-append_to.ensures ∙ ap (λ (l : List ℕ). c.args.out.now.items ++ l) text in
    then_appended c.put_field_word.result c.args.out.now.items c.append_to.new.out.items c.put_field_word.new.out.items front _ (opened (event_fields c.args.counted c.args.number c.args.moment c.args.kind.now))
    appended c.put_field_word.ensures
    (head_written number (decimal c.args.moment) (date_value c.args.moment) (in_quotes c.args.kind.now))

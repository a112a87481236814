use Rattle.std.proofs.Common.{ℕ, List, subst, ◌∙◌}
use Rattle.std.specs.Prelude.{codes}
use Rattle.std.specs.Fmt.{decimal, signed_decimal}
use Rattle.text_core.specs.Pieces.{AppendsText}
use Rattle.text_core.proofs.PieceLemmas.{before}
use Rattle.object_core.specs.Onward.{next_field}
use Rattle.exchange_engines.specs.EntryObject.{delay_from}
use Rattle.exchange_engines.proofs.EntryObjects.{three_and}
use Rattle.exchange_engines.proofs.texts.entry_object.put_delay_fields.Goals as goal

pub returns : goal.returns
returns g c =
    let args = c.args in
    let delay = signed_decimal (delay_from args.t args.moment) in
    let text =
    before (codes ",\"delay\":") c.put-4.ensures.text (
    before delay (rw c.microseconds.ensures at c.prepend_delay.ensures.text) (
    before (codes ",\"stNum\":") c.put-3.ensures.text (
    before (decimal args.state) c.put_decimal-2.ensures.text (
    before (codes ",\"sqNum\":") c.put-2.ensures.text (
    before (decimal args.sequence) c.put_decimal.ensures.text (
    before (codes ",\"members\":") c.put.ensures.text c.new-text.ensures)))))) in
    subst (λ (t : List ℕ). AppendsText c.append_to.result args.out.now.items c.append_to.new.out.items t)
    (text ∙ three_and (next_field (codes "delay", delay)) (next_field (codes "stNum", decimal args.state)) (next_field (codes "sqNum", decimal args.sequence)) (codes ",\"members\":")) c.append_to.ensures

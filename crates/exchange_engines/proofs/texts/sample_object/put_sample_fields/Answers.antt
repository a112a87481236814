use Rattle.std.proofs.Common.{ℕ, List, subst, ◌∙◌}
use Rattle.std.specs.Prelude.{codes}
use Rattle.std.specs.Fmt.{decimal}
use Rattle.text_core.specs.Pieces.{AppendsText}
use Rattle.text_core.proofs.PieceLemmas.{before}
use Rattle.object_core.specs.Onward.{next_field, onward}
use Rattle.exchange_engines.specs.SampleObject.{missing_fields}
use Rattle.exchange_engines.proofs.EntryObjects.{two_and}
use Rattle.exchange_engines.proofs.texts.sample_object.put_sample_fields.Goals as goal

pub returns : goal.returns
returns g c =
    let args = c.args in
    let missing = onward (missing_fields args.seen) in
    let text =
    before (codes ",\"asdu\":") c.put-3.ensures.text (
    before (decimal args.position) c.put_decimal-2.ensures.text (
    before (codes ",\"smpCnt\":") c.put-2.ensures.text (
    before (decimal args.count) c.put_decimal.ensures.text (
    before missing c.prepend_missing.ensures.text (
    before (codes "}\n") c.put.ensures.text c.new-text.ensures))))) in
    subst (λ (t : List ℕ). AppendsText c.append_to.result args.out.now.items c.append_to.new.out.items t)
    (text ∙ two_and (next_field (codes "asdu", decimal args.position)) (next_field (codes "smpCnt", decimal args.count)) missing (codes "}\n")) c.append_to.ensures

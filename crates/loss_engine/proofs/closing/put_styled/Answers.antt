use Rattle.std.proofs.Common.{◌∷◌, [], sym, ◌∙◌}
use Rattle.text_core.proofs.Fronts.{then_appended}
use Rattle.loss_engine.proofs.Closings.{closing_some, dash_some}
use Rattle.loss_engine.proofs.closing.put_styled.Goals as goal

pub returns-in_ok-extend_from_slice-in-Dated-clause-text : goal.returns-in_ok-extend_from_slice-in-Dated-clause-text
returns-in_ok-extend_from_slice-in-Dated-clause-text g c =
    rw c.in-Dated.is
    (then_appended c.put_form-in-Dated.result c.args.out.now.items _ c.put_form-in-Dated.new.out.items (45 ∷ 32 ∷ []) _ _ c.in_ok-extend_from_slice-in-Dated.ensures.items c.put_form-in-Dated.ensures
    (dash_some _ (closing_some c.args.end c.args.closing.now (sym c.is_empty.ensures ∙ c.if-is_empty.false))))

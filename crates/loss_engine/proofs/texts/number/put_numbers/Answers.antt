use Rattle.std.proofs.lemmas.Result.{err_from_is_err_and}
use Rattle.text_core.proofs.Fronts.{grown}
use Rattle.loss_engine.proofs.texts.number.put_numbers.Goals as goal

pub returns-in_err-put_number : goal.returns-in_err-put_number
returns-in_err-put_number g c =
    let p = err_from_is_err_and c.from_residual.result c.from_residual.ensures.1 in
    rw p.1 (grown _ _ _ _ c.loop-number.invariant c.in_err-put_number.ensures)

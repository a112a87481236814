use Rattle.std.proofs.lemmas.Result.{err_from_is_err_and}
use Rattle.text_core.proofs.Fronts.{grown}
use Rattle.inventory_engine.proofs.pieces.put_escaped_twice.Goals as goal

pub returns-in_err-put_octet_twice : goal.returns-in_err-put_octet_twice
returns-in_err-put_octet_twice g c =
    let p = err_from_is_err_and c.from_residual.result c.from_residual.ensures.1 in
    rw p.1 (grown _ _ _ _ c.loop-octet.invariant c.in_err-put_octet_twice.ensures)

use Rattle.std.proofs.Common.{None, ◌≡◌}
use Rattle.std.proofs.lemmas.Result.{err_from_is_err_and}
use Rattle.loss_engine.specs.Sights.{sights_of}
use Rattle.loss_engine.specs.computed.Held.{kept_by, periods_by}
use Rattle.loss_engine.proofs.Tellings.{wants_back, wants_sights}
use Rattle.loss_engine.proofs.telling.put_event.Goals as goal

pub returns-in_err-put_back-clause-wants : goal.returns-in_err-put_back-clause-wants
returns-in_err-put_back-clause-wants g c =
    let p = err_from_is_err_and c.from_residual.result c.from_residual.ensures.1 in
    let some : c.args.back ≡ None → ⊥ = λ none. let h = c.in_err-put_back.ensures.quiet none in cc in
    rw p.1 (wants_back c.args.heading c.args.back (periods_by c.args.losses.now) (kept_by c.args.losses.now) (sights_of c.args.losses.now.greatest c.args.kind.now) some)

pub returns-in_err-found-clause-wants : goal.returns-in_err-found-clause-wants
returns-in_err-found-clause-wants g c =
    let p = err_from_is_err_and c.from_residual-in_err-found.result c.from_residual-in_err-found.ensures.1 in
    rw p.1 (wants_sights c.args.heading c.args.back (periods_by c.args.losses.now) (kept_by c.args.losses.now) (sights_of c.args.losses.now.greatest c.args.kind.now) c.in_err-found.ensures.wants)

use Rattle.std.proofs.Common.{◌≡◌, []}
use Rattle.std.proofs.lemmas.Result.{err_from_is_err_and}
use Rattle.loss_core.specs.Findings.{frame_findings}
use Rattle.loss_engine.specs.computed.Held.{kept_by, periods_by}
use Rattle.loss_engine.proofs.Tellings.{wants_frame}
use Rattle.loss_engine.proofs.telling.put_goose.Goals as goal

pub returns-in_err-found-clause-wants : goal.returns-in_err-found-clause-wants
returns-in_err-found-clause-wants g c =
    let p = err_from_is_err_and c.from_residual-in_err-found.result c.from_residual-in_err-found.ensures.1 in
    let some : frame_findings c.in_ok-frame.frame c.in_ok-frame.told ≡ [] → ⊥ = λ none. let h = c.in_err-found.ensures.quiet none in cc in
    rw p.1 (wants_frame c.args.heading (periods_by c.args.losses.now) (kept_by c.args.losses.now) _ _ _ c.in_ok-frame.frame c.in_ok-frame.told c.in_ok-frame.ensures.arrival c.in_ok-frame.ensures.told some)

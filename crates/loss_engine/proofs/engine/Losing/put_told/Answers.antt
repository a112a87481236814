use Rattle.std.proofs.Common.{◌≡◌, [], inr, ◌∙◌}
use Rattle.std.proofs.lemmas.Result.{err_from_is_err_and}
use Rattle.loss_engine.specs.computed.Held.{kept_by, periods_by}
use Rattle.loss_engine.proofs.Passages.{wants_dated, wants_undated}
use Rattle.loss_engine.proofs.engine.Losing.put_told.Goals as goal

pub returns-in_err-found-in-Dated-clause-wants : goal.returns-in_err-found-in-Dated-clause-wants
returns-in_err-found-in-Dated-clause-wants g c =
    let p = err_from_is_err_and c.from_residual.result c.from_residual.ensures.1 in
    let w = rw c.pass-back.ensures.periods at c.in_err-found-in-Dated.ensures.wants in
    rw p.1 (rw c.in-Dated.is (wants_undated (periods_by c.args.self.now.losses) (kept_by c.args.self.now.losses) (kept_by c.pass-back.new.self) c.args.number c.args.event.now c.pass-back.result c.pass-back.ensures.back c.pass-back.ensures.kept w))

pub returns-in_err-put_dated-in-Dated-clause-wants : goal.returns-in_err-put_dated-in-Dated-clause-wants
returns-in_err-put_dated-in-Dated-clause-wants g c =
    let p = err_from_is_err_and c.from_residual-in_err-put_dated-in-Dated.result c.from_residual-in_err-put_dated-in-Dated.ensures.1 in
    let some : c.put_event-in-Dated.new.out.items ≡ [] → ⊥ = λ none. let h = c.in_err-put_dated-in-Dated.ensures.quiet (c.as_slice.ensures.value ∙ none) in cc in
    let told = rw c.pass-back.ensures.periods at c.in_ok-found-in-Dated.ensures.tells.text in
    rw p.1 (rw c.in-Dated.is
    (inr (wants_dated (periods_by c.args.self.now.losses) (kept_by c.args.self.now.losses) (kept_by c.pass-back.new.self) c.args.number c.args.event.now c.pass-back.result c.pass-back.ensures.back c.pass-back.ensures.kept c.clear.new.self.items c.put_event-in-Dated.new.out.items c.clear.ensures.items told some)))

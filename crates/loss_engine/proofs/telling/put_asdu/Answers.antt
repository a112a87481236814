use Rattle.std.proofs.Common.{◌≡◌, ◌++◌, [], List, subst, ◌∙◌}
use Rattle.std.proofs.lemmas.Result.{err_from_is_err_and}
use Rattle.loss_core.specs.Findings.{count_told, synch_told}
use Rattle.loss_core.specs.Periods.{Period, period_of}
use Rattle.loss_engine.specs.computed.Held.{kept_by, periods_by}
use Rattle.loss_engine.proofs.Tellings.{wants_sample}
use Rattle.loss_engine.proofs.telling.put_asdu.Goals as goal

pub returns-in_err-found-clause-wants : goal.returns-in_err-found-clause-wants
returns-in_err-found-clause-wants g c =
    let p = err_from_is_err_and c.from_residual-in_err-found.result c.from_residual-in_err-found.ensures.1 in
    let count = c.args.asdu.now.smp_cnt in
    let synch = c.args.asdu.now.smp_synch in
    let id = c.args.asdu.now.sv_id.now in
    let came = c.in_ok-came.came in
    let before = c.in_ok-came.before in
    let same : c.periods-periods.result.now ≡ periods_by c.args.losses.now = c.periods-periods.ensures.is ∙ c.in_ok-came.ensures.periods in
    let there : count_told (period_of c.periods-periods.result.now id) count came ++ synch_told before synch ≡ [] → ⊥ = λ none. let h = c.in_err-found.ensures.quiet none in cc in
    let some : count_told (period_of (periods_by c.args.losses.now) id) count came ++ synch_told before synch ≡ [] → ⊥ =
    subst (λ (l : List Period). count_told (period_of l id) count came ++ synch_told before synch ≡ [] → ⊥) same there in
    rw p.1 (wants_sample c.args.heading.now (periods_by c.args.losses.now) (kept_by c.args.losses.now) _ count synch _ c.in_ok-came.ensures.told some)

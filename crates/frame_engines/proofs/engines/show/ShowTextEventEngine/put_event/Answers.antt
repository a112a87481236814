use Rattle.std.proofs.lemmas.Result.{err_from_is_err_and}
use Rattle.frame_engines.proofs.ShowLemmas.{shown_allowed, shown_there}
use Rattle.frame_engines.proofs.engines.show.ShowTextEventEngine.put_event.Goals as goal

pub returns-in_err-put_shown-clause-step : goal.returns-in_err-put_shown-clause-step
returns-in_err-put_shown-clause-step g c = λ before always.
    let p = err_from_is_err_and c.from_residual.result c.from_residual.ensures.1 in
    rw p.1 (shown_there c.args.form before c.args.number c.args.event.now)

pub returns-clause-step : goal.returns-clause-step
returns-clause-step g c = λ before always.
    let shown = c.in_ok-put_shown.ensures in
    record {
      text = shown.0;
      is_allowed = shown_allowed c.args.form before c.args.number c.args.event.now shown.0 shown.2;
      appended = shown.1;
      stands_after = tt;
    }

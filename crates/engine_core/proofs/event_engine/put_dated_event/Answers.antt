use Rattle.std.proofs.Common.{◌≡◌, [], ◌∙◌}
use Rattle.std.proofs.lemmas.Result.{err_from_is_err_and}
use Rattle.object_core.specs.declared.counted.Form.TheVariants.{Text}
use Rattle.engine_core.proofs.EventSteps.{wanted_date, wanted_dated}
use Rattle.engine_core.proofs.event_engine.put_dated_event.Goals as goal

pub returns-in_err-found-clause-step : goal.returns-in_err-found-clause-step
returns-in_err-found-clause-step g c = λ before stands.
    let p = err_from_is_err_and c.from_residual.result c.from_residual.ensures.1 in
    rw p.1 (wanted_dated (g.E.EventEngine.allows c.args.engine.now) (g.E.EventEngine.stands c.put_event.new.self) before _ (c.in_err-found.ensures.step before stands))

pub returns-in_err-put_dated-clause-step : goal.returns-in_err-put_dated-clause-step
returns-in_err-put_dated-clause-step g c = λ before stands.
    let p = err_from_is_err_and c.from_residual-in_err-put_dated.result c.from_residual-in_err-put_dated.ensures.1 in
    let some : c.put_event.new.line.items ≡ [] → ⊥ = λ none. let h = c.in_err-put_dated.ensures.quiet (c.as_slice.ensures.value ∙ none) in cc in
    rw p.1
    (wanted_date (g.E.EventEngine.allows c.args.engine.now) (g.E.EventEngine.stands c.put_event.new.self) before _ (g.met.E.EventEngine.agrees c.args.engine.now Text) c.in_ok-found.found c.clear.new.self.items c.put_event.new.line.items c.clear.ensures.items (c.in_ok-found.ensures.step before stands) some)

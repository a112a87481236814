use Rattle.engine_core.proofs.running.run.Goals as goal

pub returns-clause-text : goal.returns-clause-text
returns-clause-text g c = λ t is.
    let r = c.run_to_stop.ensures.text t is in
    rw (c.into_source.ensures.left, c.into_source.ensures.source, c.into_source.ensures.ending) (r.0, r.1, (c.run_to_stop.result.fault, r.2))

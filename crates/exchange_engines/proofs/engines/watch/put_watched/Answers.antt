use Rattle.exchange_engines.specs.computed.WatchStep.{telling_at}
use Rattle.exchange_engines.proofs.NonEmpty.{each_told}
use Rattle.exchange_engines.proofs.WatchLemmas.{no_samples}
use Rattle.exchange_engines.proofs.engines.watch.put_watched.Goals as goal

pub returns-in-Sampled-clause-quiet : goal.returns-in-Sampled-clause-quiet
returns-in-Sampled-clause-quiet g c = λ none.
    let no = no_samples c.args.watch.now.period (telling_at c.args.heading) (each_told c.args.heading.form c.args.heading.number c.args.heading.moment) c.args.id.now c.args.watch.now.last c.args.kind.now none in
    c.put_asdu_samples.ensures.quiet (rw (c.in-Frame.is, ← c.as_slice.ensures, c.in-Ok.ensures.exact, c.in-Sampled.is) at no)

pub returns-in_err-put_told_fault-in-Err-clause-quiet : goal.returns-in_err-put_told_fault-in-Err-clause-quiet
returns-in_err-put_told_fault-in-Err-clause-quiet g c = λ none.
    let h = c.args.heading in
    let tells = each_told h.form h.number h.moment in
    absurd (tells.of_fault c.in-Err.fault (rw (c.in-Frame.is, ← c.as_slice.ensures, c.in-Err.ensures.exact) at none))

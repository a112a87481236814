use Rattle.exchange_engines.proofs.WatchLemmas.{watches}
use Rattle.exchange_engines.proofs.engines.watch.WatchingEventEngine.put_event.Goals as goal

pub returns-clause-step : goal.returns-clause-step
returns-clause-step g c = λ before stands.
    let s = c.args.self.now in
    let said = c.in_ok-found.ensures.written in
    watches c.args.form s.watch.period c.put_watched.new.watch.period c.args.number s.id.now before c.args.event.now s.watch.last c.put_watched.new.watch.last c.in_ok-found.found c.args.line.now.items c.put_watched.new.line.items
    stands c.in_ok-found.ensures.period said.0 said.1 said.2

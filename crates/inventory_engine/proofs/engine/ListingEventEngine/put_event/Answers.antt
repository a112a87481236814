use Rattle.inventory_engine.proofs.Appending.{takes_event}
use Rattle.inventory_engine.proofs.engine.ListingEventEngine.put_event.Goals as goal

pub returns-clause-step : goal.returns-clause-step
returns-clause-step g c = λ before stands.
    takes_event c.args.form c.args.number before c.args.event.now c.args.self.now.known c.put_event.new.known c.args.line.now.items c.put_event.new.line.items c.in_ok-put_event.ensures.written stands

use Rattle.exchange_engines.proofs.PublishLemmas.{poll_is}
use Rattle.exchange_engines.proofs.engines.publish.take_poll.Goals as goal

pub returns-in-Running-clause-item : goal.returns-in-Running-clause-item
returns-in-Running-clause-item g c = λ progress holds.
    let runs = rw c.in-Running.is at c.in_default.ensures progress holds in
    poll_is progress c.in-Running.publisher c.put_poll.new.publisher c.args.moment c.put_poll.result c.args.line.now.items c.put_poll.new.line.items runs c.put_poll.ensures.call

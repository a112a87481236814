use Rattle.std.proofs.lemmas.Bool.{false≢true}
use Rattle.subscribe_core.proofs.subscriber.Subscriber.take.Goals as goal

pub returns-in_err-take_into-clause-quiet : goal.returns-in_err-take_into-clause-quiet
returns-in_err-take_into-clause-quiet g c = λ events stands none. absurd (false≢true (c.in_err-take_into.ensures.quiet events stands none))

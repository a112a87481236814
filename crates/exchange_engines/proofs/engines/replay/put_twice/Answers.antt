use Rattle.exchange_engines.proofs.engines.replay.put_twice.Goals as goal

pub returns-in-Dated : goal.returns-in-Dated
returns-in-Dated g c = rw c.in-Dated.is c.put_position-in-Dated.ensures

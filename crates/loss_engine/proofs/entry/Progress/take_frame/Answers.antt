use Rattle.loss_engine.proofs.entry.Progress.take_frame.Goals as goal

pub returns-in-Samples-clause-told : goal.returns-in-Samples-clause-told
returns-in-Samples-clause-told c = rw c.in-Samples.is (c.first_told.ensures c.args.frame)

pub returns-in-Counted-clause-told : goal.returns-in-Counted-clause-told
returns-in-Counted-clause-told c = rw c.in-Counted.is (c.first_told-in-Counted.ensures c.args.frame)

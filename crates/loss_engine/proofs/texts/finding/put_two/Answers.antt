use Rattle.loss_engine.proofs.texts.finding.put_two.Goals as goal

pub returns : goal.returns
returns g c = c.put_numbers.ensures

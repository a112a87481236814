use Rattle.loss_core.proofs.Samples.{stands_on, told_last}
use Rattle.loss_core.proofs.stream.Stream.take.Goals as goal

pub returns-clause-told : goal.returns-clause-told
returns-clause-told c = λ samples stands. told_last samples c.args.self.now c.args.sample c.step.result c.step.ensures.some c.step.ensures.most c.step.ensures.told stands

pub returns-clause-stands : goal.returns-clause-stands
returns-clause-stands c = λ samples stands.
    stands_on samples c.args.self.now c.step.new.self c.args.sample c.step.result c.step.ensures.some c.step.ensures.most c.step.ensures.told c.step.ensures.period c.step.ensures.newest stands

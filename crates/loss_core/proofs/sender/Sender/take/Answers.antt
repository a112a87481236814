use Rattle.loss_core.proofs.Known.{stands_on, told_last}
use Rattle.loss_core.proofs.sender.Sender.take.Goals as goal

pub returns-clause-told : goal.returns-clause-told
returns-clause-told c = λ frames stands. told_last frames c.args.self.now c.args.frame c.step.result c.step.ensures.told stands

pub returns-clause-stands : goal.returns-clause-stands
returns-clause-stands c = λ frames stands.
    stands_on frames c.args.self.now c.step.new.self c.args.frame c.step.result c.step.ensures.told c.step.ensures.newest c.step.ensures.deadline stands

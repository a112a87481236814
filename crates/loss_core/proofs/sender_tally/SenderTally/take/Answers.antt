use Rattle.loss_core.proofs.Totals.{tally_on, tally_told}
use Rattle.loss_core.proofs.sender_tally.SenderTally.take.Goals as goal

pub returns-clause-told : goal.returns-clause-told
returns-clause-told c = λ frames stands. tally_told frames c.args.self.now c.args.frame c.step.result c.step.ensures.told stands

pub returns-clause-stands : goal.returns-clause-stands
returns-clause-stands c = λ frames stands.
    tally_on frames c.args.self.now c.step.new.self c.args.frame c.step.result c.step.ensures.told c.step.ensures.newest c.step.ensures.deadline c.step.ensures.adds c.step.ensures.set stands

use Rattle.loss_core.proofs.SampleTotals.{tally_on, tally_told}
use Rattle.loss_core.proofs.stream_tally.StreamTally.take.Goals as goal

pub returns-clause-told : goal.returns-clause-told
returns-clause-told c = λ samples stands. tally_told samples c.args.self.now c.args.sample c.step.result c.step.ensures.some c.step.ensures.most c.step.ensures.told stands

pub returns-clause-stands : goal.returns-clause-stands
returns-clause-stands c = λ samples stands.
    tally_on samples c.args.self.now c.step.new.self c.args.sample c.step.result c.step.ensures.some c.step.ensures.most c.step.ensures.told c.step.ensures.period c.step.ensures.newest c.step.ensures.adds stands

use Rattle.subscribe_core.proofs.Counts.{seen_last, watches_on}
use Rattle.subscribe_core.proofs.watch.Watch.see.Goals as goal

pub returns-clause-seen : goal.returns-clause-seen
returns-clause-seen c = λ counts stands. seen_last counts c.args.self.now c.args.count c.step.result c.step.ensures.seen stands

pub returns-clause-stands : goal.returns-clause-stands
returns-clause-stands c = λ counts stands.
    watches_on counts c.args.self.now c.step.new.self c.args.count c.step.result c.step.ensures.seen c.step.ensures.period c.step.ensures.last stands

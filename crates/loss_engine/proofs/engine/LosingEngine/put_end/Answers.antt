use Rattle.loss_engine.specs.computed.Held.{kept_by, periods_by}
use Rattle.loss_engine.proofs.LossSteps.{losses_end, puts_line}
use Rattle.loss_engine.proofs.engine.LosingEngine.put_end.Goals as goal

pub returns-clause-ends : goal.returns-clause-ends
returns-clause-ends g c = λ items stands. let s = c.args.self.now in losses_end (periods_by s.losses) s.losses.are_periods s.style items

pub returns-clause-line : goal.returns-clause-line
returns-clause-line g c = λ items stands lines may.
    let s = c.args.self.now in
    puts_line (periods_by s.losses) s.losses.are_periods s.style (kept_by s.losses) items lines stands may c.args.at c.put_closing.result c.args.line.now.items c.put_closing.new.out.items c.put_closing.ensures.line

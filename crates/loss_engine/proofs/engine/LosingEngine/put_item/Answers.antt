use Rattle.engine_core.specs.EventsText.{fault_text}
use Rattle.loss_engine.specs.computed.Held.{kept_by, periods_by}
use Rattle.loss_engine.proofs.LossSteps.{piece_taken, piece_wanted}
use Rattle.loss_engine.proofs.engine.LosingEngine.put_item.Goals as goal

pub returns-in-Ok-clause-step : goal.returns-in-Ok-clause-step
returns-in-Ok-clause-step g c = λ before stands.
    let s = c.args.self.now in
    piece_taken (periods_by s.losses) s.losses.are_periods s.style (fault_text g.F.LastLine.last_line g.F.LastObject.last_object) (kept_by s.losses) (kept_by c.put_told-put.new.self.losses) (periods_by c.put_told-put.new.self.losses) before (c.args.number, c.args.event) c.in-Ok.found c.args.line.now.items c.put_told-put.new.line.items stands
    c.put_told-put.ensures.periods c.in-Ok.ensures.puts

pub returns-in-Err-clause-step : goal.returns-in-Err-clause-step
returns-in-Err-clause-step g c = λ before stands.
    let s = c.args.self.now in
    piece_wanted (periods_by s.losses) s.losses.are_periods s.style (fault_text g.F.LastLine.last_line g.F.LastObject.last_object) g.F.InputFault.refused (kept_by s.losses) before (c.args.number, c.args.event) stands c.in-Err.ensures.wants

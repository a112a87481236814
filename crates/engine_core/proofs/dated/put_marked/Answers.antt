use Rattle.std.proofs.Common.{◌∙◌}
use Rattle.engine_core.proofs.DatedLines.{line_passed}
use Rattle.engine_core.proofs.dated.put_marked.Goals as goal

pub lines-preserved : goal.lines-preserved
lines-preserved g c =
    let p = line_passed c.args.out.now.items c.lines.out.items c.extend_from_slice-in-lines.new.self.items c.extend_from_slice-in-lines-2.new.self.items c.push.new.self.items c.args.mark.now c.cut_first.result.0.now c.lines.others.now c.in-Some.rest.now (rw c.in-Some.is at c.cut_first.ensures.parts) c.in_ok-extend_from_slice.ensures.items c.in_ok-extend_from_slice-2.ensures.items c.in_ok-push.ensures.items c.lines.invariant.front in
    record { front = p.0; text = p.1 ∙ c.lines.invariant.text }

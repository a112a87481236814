use Rattle.std.proofs.Common.{rules, arith, ◌+◌, ◌-◌, ◌≤◌, ap, ◌∙◌}
use Rattle.std.specs.Prelude.{slice_range}
use Rattle.list_core.specs.Reader.{stream}
use Rattle.list_core.proofs.Readers.{answers_line, front_within}
use Rattle.list_core.proofs.line_reader.LineReader.advance.Goals as goal

pub returns-in-Ok-Some-clause-stream : goal.returns-in-Ok-Some-clause-stream
returns-in-Ok-Some-clause-stream g c =
    let e = c.in-Ok-Some.ensures in
    let at = stream g.R.Source.left g.R.Source.ending in
    let off = c.take.ensures in
    let filled = c.fill.new.self in
    let few : c.front_size.result ≤ filled.end - filled.start = omega (arith, c.front_size.ensures.size, off.start) in
    let line = ap (λ b. slice_range b filled.start (filled.start + c.front_size.result)) off.buffer ∙ front_within filled.buffer filled.start filled.end c.front_size.result few ∙ c.front_size.ensures.line in
    answers_line (at c.args.self.now) (at c.fill.new.self) (at c.take.new.self) e.given.0 _ c.in-Ok-Some.field-0 c.in-Ok-Some.size e.given.1 e.taken e.given.2 e.given.3 e.given.4 e.bounded c.in-Ok-Some.field-0-is e.front
    line (search rules) (search rules) off.taken off.held off.off

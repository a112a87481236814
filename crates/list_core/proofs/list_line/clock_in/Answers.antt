use Rattle.std.proofs.Common.{sym, ◌∙◌}
use Rattle.list_core.proofs.LineFields.{clock_more}
use Rattle.list_core.proofs.list_line.clock_in.Goals as goal

pub returns-then-is_some : goal.returns-then-is_some
returns-then-is_some g c =
    clock_more c.args.unit c.args.rest.now c.first_field.result.0.now c.first_field.result.1 c.first_field.ensures (sym c.is_some.ensures ∙ c.if-is_some.true)

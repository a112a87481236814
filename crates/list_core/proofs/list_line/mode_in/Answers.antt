use Rattle.std.proofs.Common.{sym, ◌∙◌}
use Rattle.list_core.proofs.LineFields.{mode_more}
use Rattle.list_core.proofs.list_line.mode_in.Goals as goal

pub returns-then-is_some : goal.returns-then-is_some
returns-then-is_some g c =
    let first = rw c.in-Some.is at c.first_field.ensures in
    mode_more c.args.unit c.args.rest.now c.first_field.result.0.now c.in-Some.rest.now c.first_field-2.result.0.now c.first_field-2.result.1 first c.first_field-2.ensures (sym c.is_some.ensures ∙ c.if-is_some.true)

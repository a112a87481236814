use Rattle.std.proofs.Common.{sym, ◌∙◌}
use Rattle.script_core.proofs.ScriptLemmas.{change_more}
use Rattle.script_core.proofs.script_line.change_line.Goals as goal

pub returns-then-is_some : goal.returns-then-is_some
returns-then-is_some g c =
    let first = rw c.in-Some-fields.is at c.cut_first.ensures.parts in
    let second = rw c.in-Some-fields-2.is at c.cut_first-2.ensures.parts in
    rw c.in-Some.is
    (change_more c.args.unit c.args.part c.in-Some.fields.now c.cut_first.result.0.now c.in-Some-fields.fields.now c.cut_first-2.result.0.now c.in-Some-fields-2.fields.now c.cut_first-3.result.0.now c.cut_first-3.result.1 first second c.cut_first-3.ensures.parts (sym c.is_some.ensures ∙ c.if-is_some.true))

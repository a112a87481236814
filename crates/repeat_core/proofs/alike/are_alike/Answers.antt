use Rattle.std.proofs.Common.{◌≡◌, length, rules}
use Rattle.std.specs.Prelude.{slice_range}
use Rattle.repeat_core.proofs.AlikeParts.{alike_up_to}
use Rattle.repeat_core.proofs.alike.are_alike.Goals as goal

pub returns-then-eq : goal.returns-then-eq
returns-then-eq c = λ told.
    let held = c.args.held.now in
    let o = c.args.octets.now in
    let n = c.args.notes.now in
    let size : length o ≡ length held = search rules in
    let back : slice_range o n.sq_num.contents_to (length o) ≡ slice_range held n.sq_num.contents_to (length held) = search rules in
    let low : slice_range o 0 n.sq_num.contents_from ≡ slice_range held 0 n.sq_num.contents_from = search rules in
    alike_up_to held o n c.requires size low back

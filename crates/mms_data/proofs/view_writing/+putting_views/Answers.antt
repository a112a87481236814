use Rattle.std.proofs.Common.{◌≡◌, ◌^◌, ◌++◌, ap, sym, ◌∙◌}
use Rattle.mms_data.specs.Meaning.{left, meaning}
use Rattle.mms_data.specs.Written.{written, written_all}
use Rattle.mms_data.proofs.Appends.{part_fits, part_within}
use Rattle.mms_data.proofs.view_writing.+putting_views.Goals as goal

pub put_each-returns-in_err-put_view-clause-enough : goal.put_each-returns-in_err-put_view-clause-enough
put_each-returns-in_err-put_view-clause-enough g t c = λ small room.
    let all = written_all (left c.args.members) in
    let part = written (meaning c.in-Some.view) in
    let rest = written_all (left c.next.new.self) in
    let old = c.args.out.now.items in
    let out = c.members.out.items in
    let so_far : out ++ (part ++ rest) ≡ old ++ all = ap (λ x. out ++ written_all x) (sym c.in-Some.ensures.steps.0) ∙ c.members.invariant.all in
    let fits = part_fits g.row.N old out all part rest so_far room in
    let few = part_within (2 ^ 32) old out all part rest c.members.invariant.grown so_far small in
    absurd (cc (c.in_err-put_view.ensures.enough few fits))

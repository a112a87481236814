use Rattle.std.proofs.Common.{arith, take, ap, ◌∙◌, ◌++◌}
use Rattle.std.proofs.lemmas.List.{length-take-le}
use Rattle.list_core.proofs.Lines.{slice_range-put_mid, slice_range-put_mid_none}
use Rattle.list_core.proofs.line_reader.LineReader.refill.Goals as goal

pub returns-in-Ok-clause-given : goal.returns-in-Ok-clause-given
returns-in-Ok-clause-given g c =
    let r = c.make_room.new.self in
    let into = c.read_some.new.into in
    let n = c.in-Ok.count in (
      take n into,
      length-take-le n into c.in-Ok.ensures.count,
      rw c.make_room.ensures.reader at c.in-Ok.ensures.given,
      slice_range-put_mid r.buffer into r.start r.end _ n r.ordered (omega (arith, r.sized, r.within)) c.in-Ok.ensures.count
          ∙ ap (λ l. l ++ take n into) c.make_room.ensures.held,
    )

pub returns-in-Err-clause-given : goal.returns-in-Err-clause-given
returns-in-Err-clause-given g c = (
  rw c.make_room.ensures.reader at c.in-Err.ensures.given,
  let r = c.make_room.new.self in slice_range-put_mid_none r.buffer _ r.start r.end _ (omega (arith, r.sized, r.within)) ∙ c.make_room.ensures.held,
)

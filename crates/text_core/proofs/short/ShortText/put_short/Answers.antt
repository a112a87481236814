use Rattle.std.proofs.Common.{◌-◌, arith, length, refl}
use Rattle.text_core.proofs.PlainTexts.{short_put}
use Rattle.text_core.proofs.short.ShortText.put_short.Goals as goal

pub returns-then-are_plain-2-clause-put : goal.returns-then-are_plain-2-clause-put
returns-then-are_plain-2-clause-put g c = λ _.
    let text = c.args.text.now in
    short_put text _ _ _ _ g.row.N (length text - g.row.N) c.in-Some.ensures.cases.0 c.in-Some-split_last_chunk.ensures.cases.1 (omega arith) (c.if-are_plain.ensures refl) (c.if-are_plain-2.ensures refl) c.put_halves.ensures
